pub mod Scanning
pub mod Running
pub mod Bodies
pub mod Accepted
