pub mod Places
pub mod Filling
