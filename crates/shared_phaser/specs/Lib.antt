pub mod History
pub mod Known
pub mod Rule
pub mod Outcome
pub mod Race
pub use Rattle.packed_phaser.specs.Word
pub use Rattle.packed_phaser.specs.Flat
pub use Rattle.atomic_table.specs.Seated
