pub mod Lines
pub mod Counting
pub mod Block
pub mod Log
pub mod Call
pub mod Lent
pub mod Promises
