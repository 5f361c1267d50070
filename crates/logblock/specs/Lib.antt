pub mod Layout
pub mod Entries
pub mod Reading
pub mod Writing
pub mod Promises
