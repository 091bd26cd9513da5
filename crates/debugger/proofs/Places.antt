-- Where a byte first stands.
pub use Rattle.line_reader.proofs.Places.{position_some, position_none}
