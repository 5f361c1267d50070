pub mod Sheet
pub mod Lent
pub mod Promises
