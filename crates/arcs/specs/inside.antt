pub mod Pieces
pub mod Traces
pub mod Plans
