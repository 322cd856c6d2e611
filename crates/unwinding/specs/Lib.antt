pub mod Links
pub mod Blocks
pub mod Going
pub mod Next
