pub mod Results
pub mod Stages
pub mod Widths
