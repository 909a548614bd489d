pub mod Hanging
pub mod Determined
