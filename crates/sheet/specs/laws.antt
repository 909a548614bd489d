pub mod SheetNumbers
pub mod LaidOut
pub mod Refusals
pub mod Sheets
pub mod Nodes
pub mod ReadInto
pub mod Awaited
pub mod Plain
