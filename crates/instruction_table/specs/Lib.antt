pub mod Register
pub mod Registers
pub mod Row
pub mod Table
pub mod Group
pub mod LocalRows
