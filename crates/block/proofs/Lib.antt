-- Laws, each file named after the definition file that it is about.
pub mod Reading
pub mod Table
pub mod Ranges
