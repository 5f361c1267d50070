-- Laws, each file named after the definition that it is about; one whose name a source file has ends in Laws.
pub mod SortingLaws
pub mod Reordered
pub mod Proposed
pub mod Promises
