pub mod Potentials
pub mod Shown
pub mod Optimal
