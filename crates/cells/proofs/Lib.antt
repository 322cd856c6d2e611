pub mod Overwriting
pub mod Marks
