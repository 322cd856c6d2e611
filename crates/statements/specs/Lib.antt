pub mod Runs
pub mod Statements
