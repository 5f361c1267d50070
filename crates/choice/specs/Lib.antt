pub mod Capacities
pub mod Promises
