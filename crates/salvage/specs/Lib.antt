pub mod Keeping
pub mod Fates
pub mod Moving
pub mod Sifting
pub mod Outcome
pub mod Promises
