pub mod Meaning
pub mod Determined
