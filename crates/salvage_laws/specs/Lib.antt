pub mod Saved
pub mod Causes
