-- Laws, each file named after the definitions that it is about; Release has the window's laws of a taken release.
pub mod Served
pub mod GuestTick
pub mod Supply
pub mod Equation
pub mod Clock
pub mod Window
pub mod Release
pub mod Kept
