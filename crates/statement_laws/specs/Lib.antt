pub mod Entries
pub mod Taken
pub mod LineSays
pub mod Fits
pub mod Cut
pub mod Told
pub mod Worked
