-- Laws, each file named after the definition that it is about.
pub mod Up
pub mod Asked
pub mod EdgesLaws
