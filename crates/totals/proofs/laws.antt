pub mod Starts
pub mod Chaining
pub mod Walking
pub mod LayerSums
pub mod LeftSums
