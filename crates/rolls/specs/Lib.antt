pub mod Limits
pub mod Refusals
pub mod Totals
pub mod Single
pub mod Table
pub mod inside
pub mod laws
