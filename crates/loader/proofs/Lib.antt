pub mod Search
pub mod Whole
pub mod Declaring
pub mod Images
