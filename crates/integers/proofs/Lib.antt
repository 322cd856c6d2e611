pub mod Answers
pub mod Signs
pub mod Holding
pub mod Division
pub mod Results
