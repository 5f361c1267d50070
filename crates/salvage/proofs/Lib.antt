-- Laws, each file named after the definition file that it is about.
pub mod Keeping
pub mod Fates
pub mod Moving
pub mod Sifting
pub mod Outcome
pub mod Promises
