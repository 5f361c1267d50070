pub mod Ids
pub mod Replaced
pub mod Answers
pub mod Found
pub mod Own
pub mod Exact
pub mod Worked
