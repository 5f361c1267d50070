pub mod Calls
pub mod Sheets
pub mod Named
pub mod Share
pub mod Runs
pub mod Finished
pub mod Usage
pub mod Settings
