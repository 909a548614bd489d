pub mod Refusals
pub mod Draws
pub mod MinimumWidth
pub mod WidthTable
pub mod Answers
pub mod inside
pub mod laws
