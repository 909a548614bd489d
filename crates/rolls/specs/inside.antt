pub mod Order
pub mod Put
pub mod Held
