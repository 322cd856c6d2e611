pub mod Naming
pub mod Accepted
