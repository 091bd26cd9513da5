pub mod Numbers
pub mod Streams
pub mod Tokens
pub mod Turns
pub mod Runs
pub mod Records
pub mod ReadAtOnce
pub mod Fews
