pub mod Reaching
pub mod Reading
