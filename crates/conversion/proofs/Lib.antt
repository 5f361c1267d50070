-- Laws, each file named after the definition file that it is about.
pub mod Converting
pub mod Outcome
pub mod Promises
