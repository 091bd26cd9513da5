pub mod Sheet
pub mod Caption
pub mod Turn
pub mod Picture
pub mod Drawing
pub mod Choices
pub mod Page
pub mod Missing
