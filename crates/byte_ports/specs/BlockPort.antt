-- A port with a block, as its callers see it.
use Rattle.std.specs.Prelude.{ℕ, Bool, List}

-- the sink or the source below; the bytes that the sink hasn't got yet, or that the source has given and nobody has taken; and
-- whether a call has failed
pub record Blocks (K : Type 0) : Type 0 where
  pub inner : K
  pub held : List ℕ
  pub failed : Bool
