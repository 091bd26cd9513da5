pub mod Stories
pub mod Steps
pub mod Plays
pub mod Tries
pub mod Parties
