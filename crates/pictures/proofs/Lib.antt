mod Appended
mod Awaited
pub mod Cells
mod Counts
pub mod Drawings
mod Ends
mod Escapes
mod Missings
