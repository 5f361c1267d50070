pub mod Records
pub mod Finder
pub mod Promises
