-- The theorems behind the promises, a file for each subject: statements, each with a line that cites its proof.
-- Numbers, Instances, PlanA, BoundTask, PlanALog and PlanAViews show them at the documents' plans, and Computed and ComputedViews
-- hold what is shown by computing there.
pub mod Refusals
pub mod Causes
pub mod PlanFiles
pub mod Conversion
pub mod Verdicts
pub mod Amendments
pub mod Ordering
pub mod Choosing
pub mod Dispatcher
pub mod Word
pub mod Sheets
pub mod Independence
pub mod Statements
pub mod Salvaging
pub mod Computed
pub mod ComputedViews
pub mod Numbers
pub mod Instances
pub mod PlanA
pub mod BoundTask
pub mod PlanALog
pub mod PlanAViews
