pub mod Stores
pub mod Slackness
pub mod Search
pub mod Steps
pub mod Finish
pub mod Optimal
