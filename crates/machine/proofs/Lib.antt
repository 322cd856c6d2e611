pub mod Along
pub mod Results
