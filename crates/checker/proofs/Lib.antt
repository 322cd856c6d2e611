pub mod Chain
pub mod Asking
pub mod Bounds
pub mod Exactly
pub mod Accepted
