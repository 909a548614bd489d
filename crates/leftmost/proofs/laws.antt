pub mod Potentials
pub mod Shown
pub mod Passes
pub mod Start
