-- Laws, each file named after the definition file that it is about.
pub mod Pair
pub mod Amended
pub mod Finder
pub mod Verdict
pub mod Promises
pub mod Told
