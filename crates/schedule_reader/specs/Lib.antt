pub mod Schedule
pub mod Reading
pub mod Places
pub mod Text
pub mod Record
pub mod FaultNumber
pub mod Joined
pub mod Few
