-- Laws, each file named after the definition that it is about.
pub mod All
pub mod Sum
pub mod Table
pub mod Places
pub mod Search
pub mod Refusals
pub mod Exactly
