pub mod Names
pub mod Often
