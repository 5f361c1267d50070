-- Laws, each file named after the definition that it is about.
pub mod Sum
pub mod Orders
pub mod ByDeadline
pub mod Reordered
pub mod Said
pub mod Placed
pub mod Proposed
pub mod Proposals
pub mod Again
pub mod Worked
