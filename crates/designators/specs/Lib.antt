pub mod Designators
