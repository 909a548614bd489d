pub mod Cursor
pub mod Formats
pub mod Awaited
pub mod Order
