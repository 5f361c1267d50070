-- Laws, each file named after the definition that it is about.
pub mod Filled
pub mod Charge
pub mod First
pub mod MarksLaws
pub mod RangesLaws
pub mod Order
pub mod PeriodicLaws
pub mod Converted
pub mod Placed
pub mod Place
pub mod LookUp
pub mod Promises
