pub mod TableLemmas
pub mod Wrapping
pub mod WordSlots
