-- What verdicts and capacities mean, and a pair with a sheet, at document 01's plans, so that those theorems are not
-- empty. Assumes nothing.
use native.Mathlib.Omega.{arith}
use Rattle.verdict_laws.specs.Guests.{Responds, NoneFits}
use Rattle.verdict_laws.specs.Tasks.{TaskMet, TaskUnmetAt, TaskUnmet, TaskUnjudged}
use Rattle.verdict_laws.specs.Acceptances.{AllGood}
use Rattle.verdict_laws.specs.Capacities.{CapacitySmallest, NoCapacity}
use Rattle.blockwriter.specs.Writing.{block_of}
use Rattle.planfile_laws.specs.File.{file_of}
use Rattle.capacity.specs.Capacity.{with_capacity}
use Rattle.amendment_laws.specs.Replaced.{AnsweredAs}
use Rattle.worked.specs.Plans.{A, A35, nine, plan_B, plan_D}
use Rattle.amendment_laws.proofs.Worked.{answers_7, own_answers_a}
use Rattle.results.proofs.Computed.{computed}
use Rattle.results.proofs.Numbers.{numbers}
use Rattle.results.proofs.Verdicts.{guest_means, task_means, acceptance_means, capacity_means}

-- 14 is the least solution of the equation of plan A's guest 9.
pub fitted_14 : Responds A 1 14
fitted_14 = rw numbers.second at (guest_means A 9 1 computed.there_A)

-- The equation of the guest 4/6 under 2/5 has no solution up to its period.
pub unfit_4_6 : NoneFits (plan_B 4) 1
unfit_4_6 = rw numbers.unfit at (guest_means (plan_B 4) 9 1 computed.there_unfit)

-- The first task of guest 9 is met with 36.
pub met_36 : TaskMet A 1 0 36
met_36 = rw numbers.first_task at (task_means A 9 1 computed.there_A 0 (omega arith))

-- With deadline 35 that task is unmet with 36.
pub unmet_36 : TaskUnmetAt A35 1 0 36
unmet_36 = rw numbers.first_late at (task_means A35 9 1 computed.there_A35 0 (omega arith))

-- Case 7: no response is quoted, the first gap being past the period.
pub unmet_plain : TaskUnmet plan_D 0 0
unmet_plain = rw numbers.gap_past_period at (task_means plan_D 7 0 computed.there_gap 0 (omega arith))

-- A task two places below the unfit guest is unjudged.
pub unjudged_below : TaskUnjudged (plan_B 4) 3
unjudged_below = rw numbers.unfit_below_that at (task_means (plan_B 4) 12 3 computed.there_below 0 (omega arith))

-- Plan A is accepted: all its guests are fitted and all its tasks met.
pub good_A : AllGood A
good_A = rw numbers.accepted at (acceptance_means A computed.there_A.order)

-- Capacity 7 works for guest 9, and no smaller one does.
pub smallest_7 : CapacitySmallest A 1 7
smallest_7 = rw numbers.smallest at (capacity_means A 9 1 computed.there_A)

-- Case 6: no capacity works.
pub none_of_6 : NoCapacity (plan_B 3) 1 11 0
none_of_6 = rw numbers.none_works at (capacity_means (plan_B 3) 9 1 computed.there_none)

-- With guest 9's block on a sheet, at capacity 7, plan A is answered for as the plan with that capacity.
pub amended_7 : AnsweredAs (file_of A) (block_of (nine 7) 1) (with_capacity A 1 7)
amended_7 = answers_7

-- With its own file as the sheet, plan A is answered for as it is.
pub amended_by_itself : AnsweredAs (file_of A) (file_of A) A
amended_by_itself = own_answers_a
