pub mod Converting
pub mod Outcome
pub mod Promises
