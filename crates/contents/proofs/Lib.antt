pub mod Keeping
pub mod Evens
pub mod Parting
