-- Laws, each file named after the definitions that it is about.
pub mod Tallies
pub mod Place
pub mod Found
