-- Laws, each file named after the definition that it is about.
pub mod Margin
