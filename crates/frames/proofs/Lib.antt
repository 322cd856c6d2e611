pub mod Scanning
pub mod Claiming
pub mod Accepted
