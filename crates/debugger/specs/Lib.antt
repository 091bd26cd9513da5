pub mod Undos
pub mod Session
pub mod Moves
pub mod Go
pub mod Goes
pub mod Command
pub mod Reply
pub mod Standing
