pub mod Naming
pub mod NamedLines
pub mod Named
pub mod Shown
pub mod Writing
pub mod Compare
pub mod Comparing
