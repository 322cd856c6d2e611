pub mod Check
pub mod Exactly
pub mod Prepared
