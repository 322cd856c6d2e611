pub mod Missed
pub mod Elements
pub mod Laws
pub mod Low
pub mod Seeing
