-- Laws, each file named after the definitions that it is about.
pub mod ColumnsPut
pub mod CapacitiesLaws
pub mod Promises
