-- Laws, each file named after the definition file that it is about.
pub mod File
pub mod Records
pub mod Joined
