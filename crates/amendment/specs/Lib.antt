pub mod Pair
pub mod Amended
pub mod Finder
pub mod Verdict
pub mod Promises
pub mod Told
