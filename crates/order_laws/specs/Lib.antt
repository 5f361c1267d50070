pub mod Orders
pub mod Proposals
pub mod Worked
