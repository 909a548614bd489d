pub mod Fewest
pub mod ByNode
pub mod Examples
pub mod Lengths
