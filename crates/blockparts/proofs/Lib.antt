-- Laws of `Parts`: how the code puts the parts in, and what the words of a block then are.
pub mod Parts
pub mod Words
