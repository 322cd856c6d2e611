pub mod Comparing
pub mod Operands
pub mod Typed
pub mod Ranges
pub mod Skipping
