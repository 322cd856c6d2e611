pub mod Rooms
pub mod Cells
pub mod Counting
pub mod Running
pub mod Framing
pub mod Placing
pub mod Owning
