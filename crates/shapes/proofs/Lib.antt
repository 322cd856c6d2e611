pub mod Rows
pub mod Accepted
pub mod Singles
pub mod ByKind
pub mod Layouts
