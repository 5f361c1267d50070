-- Laws, each file named after the definition file that it is about.
pub mod EntriesLaws
pub mod Reading
pub mod Writing
pub mod Promises
