pub mod Prints
pub mod inside
pub mod laws
