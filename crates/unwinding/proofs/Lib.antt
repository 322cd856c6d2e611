pub mod Links
mod Blocks
pub mod Walking
pub mod Going
pub mod Over
mod Seeking
pub mod Bodies
mod Along
pub mod Next
pub mod Conjunctions
