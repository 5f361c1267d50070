pub mod Place
pub mod Ranges
pub mod Parts
pub mod Usage
