pub mod Replaced
pub mod Causes
