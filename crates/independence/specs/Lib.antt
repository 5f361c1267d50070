pub mod Event
pub mod View
pub mod Own
pub mod NoRuns
pub mod SameFor
