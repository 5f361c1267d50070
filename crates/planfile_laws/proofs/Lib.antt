-- The theorems are in ReadBack, OnlyOurs, Written and Exact; the other files are what they are made of.
pub mod Marks
pub mod Words
pub mod Joined
pub mod BlockBack
pub mod BlockOnly
pub mod ReadBack
pub mod OnlyOurs
pub mod Written
pub mod Causes
pub mod Zeros
pub mod Order
pub mod BlockExact
pub mod Exact
pub mod ExactRecords
pub mod Worked
