pub mod Sorting
pub mod Reordered
pub mod Proposed
pub mod Promises
pub mod Steps
