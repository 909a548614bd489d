pub mod Constraints
pub mod Steps
