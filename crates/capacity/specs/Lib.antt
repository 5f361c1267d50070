pub mod Capacity
pub mod Answer
pub mod Promises
pub mod Told
pub mod Search
pub mod Tries
