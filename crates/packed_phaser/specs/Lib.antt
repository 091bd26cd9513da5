pub mod Flat
pub mod Policy
pub mod Word
pub mod Answer
pub use Rattle.phase_number.specs.Phase
