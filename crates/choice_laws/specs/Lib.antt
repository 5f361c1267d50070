pub mod Capacities
pub mod Worked
