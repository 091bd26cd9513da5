pub mod Digits
pub mod Names
pub mod Pieces
pub mod Behind
pub mod Storing
pub mod Nesting
pub mod Progresses
pub mod Threads
pub mod Repeats
pub mod Groups
pub mod Choosing
mod Kept
