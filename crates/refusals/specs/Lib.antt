pub mod Entry
pub mod Explained
pub mod Question
pub mod Word
