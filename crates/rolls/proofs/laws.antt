pub mod Order
pub mod Put
pub mod Below
pub mod Whole
