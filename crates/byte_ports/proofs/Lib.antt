mod Blocks
mod Pieces
pub mod ShortCopies
