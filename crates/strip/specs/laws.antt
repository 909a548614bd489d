pub mod CheckedLeast
pub mod Refusals
pub mod ReadBack
pub mod Values
pub mod Narrowest
pub mod Drawn
pub mod Totals
