pub mod Forms
pub mod Sizes
pub mod Shapes
