pub mod Climbing
pub mod Extension
pub mod Fielding
