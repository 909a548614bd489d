pub mod Certified
pub mod Duality
pub mod Held
pub mod HeldOnly
pub mod HeldSearch
pub mod NoSolution
pub mod PackedBack
pub mod Residuals
