pub mod Ruling
pub mod Accepted
