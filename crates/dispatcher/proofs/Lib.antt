-- Laws, each file named after the definition that it is about.
pub mod Valid
pub mod LentCheck
pub mod Answers
pub mod Tick
pub mod Lent
pub mod Fresh
pub mod Release
pub mod Run
pub mod Entries
pub mod Promises
