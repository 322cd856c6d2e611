pub mod Results
pub mod Members
