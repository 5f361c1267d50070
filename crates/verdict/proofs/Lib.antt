-- Laws, each file named after the definition that it is about.
pub mod Verdict
pub mod Quoted
pub mod Promises
pub mod Told
