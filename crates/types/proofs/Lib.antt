pub mod Accepted
pub mod Offsetting
pub mod Planning
pub mod Checking
