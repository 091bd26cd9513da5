pub mod Frame
pub mod Thread
pub mod Undo
