pub mod Choice
pub mod Rec
pub mod Parts
pub mod Each
pub mod Cells
pub mod Bits
