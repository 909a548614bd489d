pub mod Solutions
pub mod inside
pub mod laws
