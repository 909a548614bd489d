pub mod LayerFirsts
pub mod Fitting
pub mod Loaded
pub mod PackedEdges
pub mod HeldArcs
pub mod HeldSheets
pub mod Widened
