pub mod Words
pub mod Put
