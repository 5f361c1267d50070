-- Laws, each file named after the definitions that it is about.
pub mod Words
pub mod Same
pub mod Put
