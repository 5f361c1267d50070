pub mod File
pub mod Fits
pub mod Causes
pub mod Exact
