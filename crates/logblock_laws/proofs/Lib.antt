-- The theorems are in Back, Only and Table; Words is what they are made of.
pub mod Words
pub mod Back
pub mod Only
pub mod Table
pub mod Worked
