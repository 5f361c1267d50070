pub mod Interference
pub mod Guest
pub mod Task
pub mod Met
pub mod Columns
pub mod Ready
pub mod Seat
pub mod Window
