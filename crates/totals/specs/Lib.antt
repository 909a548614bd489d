pub mod Lengths
pub mod RunningSums
pub mod inside
pub mod laws
