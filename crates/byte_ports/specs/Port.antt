-- How each port fails, and the state of a port around a reader or a writer.
use Rattle.std.specs.Prelude.{Bool, Result, IsErr, IsTrue, ◌↔◌}

-- a call returns an error exactly if the port has failed, and a port that has failed stays so
pub record FailsForGood {T E : Type 0} (before after : Bool) (r : Result T E) : Type 0 where
  pub answer : IsErr r ↔ IsTrue after
  pub for_good : IsTrue before → IsTrue after

-- a reader or a writer, and whether a call on the port round it has failed
pub record Port (T : Type 0) : Type 0 where
  pub inner : T
  pub failed : Bool
