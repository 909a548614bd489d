pub mod Columns
pub mod Feasible
pub mod Picks
pub mod Meaning
pub mod FlowsBounded
