pub mod Verdict
pub mod Shown
pub mod inside
pub mod laws
