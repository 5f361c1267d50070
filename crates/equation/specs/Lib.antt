pub mod Solve
pub mod Guest
pub mod System
pub mod Standing
