pub mod Verdict
pub mod Quoted
pub mod Promises
pub mod Told
