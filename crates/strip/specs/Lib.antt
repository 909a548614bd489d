pub mod Words
pub mod HeldWords
pub mod Version
pub mod laws
