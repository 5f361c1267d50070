-- Laws, each file named after what it is about.
pub mod Barred
