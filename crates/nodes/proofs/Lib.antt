pub mod Scanning
pub mod Accepted
