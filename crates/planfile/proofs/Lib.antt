-- Laws, each file named after the definition file that it is about.
pub mod Records
pub mod Finder
pub mod Promises
