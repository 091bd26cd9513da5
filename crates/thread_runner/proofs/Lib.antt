pub mod Threads
pub mod Choosing
pub mod Replays
pub mod Sleeping
