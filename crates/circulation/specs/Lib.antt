pub mod Limits
pub mod Input
pub mod Solutions
pub mod inside
pub mod laws
