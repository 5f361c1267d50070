pub mod File
pub mod Records
pub mod Joined
