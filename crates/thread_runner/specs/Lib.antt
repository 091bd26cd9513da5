pub mod Recording
pub mod Turns
pub mod Endings
pub mod Waiting
pub mod Replay
