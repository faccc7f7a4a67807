pub mod Said
pub mod Results
