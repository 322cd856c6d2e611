pub mod Arguments
pub mod Entering
pub mod Calls
