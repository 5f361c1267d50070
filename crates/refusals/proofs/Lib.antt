-- Laws, each file named after the definitions that it is about.
pub mod Rows
pub mod Check
pub mod Aims
