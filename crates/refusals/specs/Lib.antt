pub mod Rows
pub mod Check
pub mod Aims
