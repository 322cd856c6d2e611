pub mod Giving
pub mod Passing
pub mod Lower
pub mod Accepted
