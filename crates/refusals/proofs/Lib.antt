pub mod Pushing
pub mod Words
