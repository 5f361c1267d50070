pub mod Guests
pub mod Tasks
pub mod Acceptances
pub mod Capacities
