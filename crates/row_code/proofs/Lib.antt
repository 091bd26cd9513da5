pub mod RowLaws
pub mod Cells
pub mod Loop
pub mod EntryLaws
pub mod ListLaws
pub mod ImageLaws
