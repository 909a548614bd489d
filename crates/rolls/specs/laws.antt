pub mod Answers
pub mod Entries
pub mod Single
pub mod Refusals
pub mod Table
