pub mod Stays
pub mod Worked
