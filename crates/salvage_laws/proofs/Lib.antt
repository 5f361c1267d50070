-- The theorems are in ReadsAsPlan, Same and Exact; the other files are what they are made of.
pub mod Moved
pub mod Kept
pub mod ReadsAsPlan
pub mod Same
pub mod Exact
pub mod Worked
