-- Laws, each file named after the definition that it is about.
pub mod Promises
pub mod Refused
