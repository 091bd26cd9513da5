pub mod Port
pub mod FailAt
pub mod MemorySource
pub mod MemorySink
pub mod Counting
pub mod BlockPort
pub mod SourceLines
