-- The theorems are in Bytes, Block and Exact; the other files are what they are made of.
pub mod Converted
pub mod Bytes
pub mod Words
pub mod Block
pub mod Exact
pub mod Worked
