pub mod Bits
pub mod Loops
pub mod Balances
pub mod Bounds
pub mod Sides
pub mod HeldTable
pub mod DecisionParts
pub mod Answers
