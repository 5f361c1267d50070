pub mod Up
pub mod Asked
pub mod Short
pub mod Edges
