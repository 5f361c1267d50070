-- Laws, each file named after the definition that it is about.
pub mod Staged
pub mod SearchLaws
pub mod NextTry
pub mod Narrowing
pub mod Tries
pub mod TestsLaws
pub mod Capacity
pub mod PlanTries
pub mod Answer
pub mod Promises
pub mod Told
