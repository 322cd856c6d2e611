pub mod Spanning
pub mod Owning
pub mod Accepted
