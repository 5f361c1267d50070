-- Laws, each file named after what it is about.
pub mod Sheet
pub mod Entry
pub mod Promises
pub mod Answered
pub mod Causes
pub mod Pair
pub mod Whole
