pub mod Request
pub mod Input
pub mod Shown
