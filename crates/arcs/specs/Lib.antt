pub mod Limits
pub mod Loading
pub mod Held
pub mod HeldSheets
pub mod inside
pub mod laws
