pub mod Designators
pub mod Filling
