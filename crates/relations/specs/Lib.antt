pub mod Extends
pub mod Fields
