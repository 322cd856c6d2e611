pub mod Variables
pub mod Procedures
