pub mod Served
pub mod Equation
pub mod GuestTick
pub mod Supply
pub mod TaskTick
pub mod Clock
pub mod Window
pub mod Kept
