pub mod Testing
pub mod Numbers
pub mod Passing
