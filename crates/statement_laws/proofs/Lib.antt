-- The theorems are in Counts, Never14, Cut and Told; the other files are what they are made of.
pub mod Entries
pub mod LineSays
pub mod Lines
pub mod Block
pub mod Taken
pub mod Counts
pub mod Never14
pub mod Log
pub mod Cut
pub mod Told
pub mod Worked
