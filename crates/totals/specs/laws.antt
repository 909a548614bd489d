pub mod LowerEnds
pub mod SheetLengths
pub mod HeldSums
