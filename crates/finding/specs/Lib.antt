pub mod Within
pub mod Missed
