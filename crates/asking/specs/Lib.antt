pub mod Asking
pub mod State
pub mod Passes
pub mod Resuming
pub mod Continuing
pub mod Cutting
