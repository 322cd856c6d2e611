pub mod Numbers
pub mod Binding
pub mod Cases
pub mod Scalars
pub mod Cells
pub mod Giving
pub mod Ranges
