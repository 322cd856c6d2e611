pub mod Question
pub mod Plan
pub mod Filling
