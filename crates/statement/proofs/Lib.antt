-- Laws, each file named after the definition file that it is about.
pub mod Lines
pub mod Aiming
pub mod CountingLaws
pub mod Lent
pub mod Block
pub mod Log
pub mod Call
pub mod Promises
