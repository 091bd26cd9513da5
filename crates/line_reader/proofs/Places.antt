-- Where a byte first stands.
use Rattle.std.proofs.Common.{◌≡◌, ℕ, Bool, List, length, Some, None, arith, ◌<◌}
use Rattle.std.proofs.lemmas.{Bool.Decides.nat_tests, List.Sums.prefix_len-le-length}
use Rattle.std.specs.List.{position, position_or_len}

-- a found place is the first one
pub position_some : (p : ℕ → Bool) (bs : List ℕ) (k : ℕ) → Some k ≡ position p bs → k ≡ position_or_len p bs
position_some p bs k h = grind arith

pub position_none : (p : ℕ → Bool) (bs : List ℕ) → None ≡ position p bs → length bs ≡ position_or_len p bs
position_none p bs h = grind (arith, prefix_len-le-length, nat_tests)

-- a found place is in the list
pub position_within : (p : ℕ → Bool) (bs : List ℕ) (k : ℕ) → Some k ≡ position p bs → position_or_len p bs < length bs
position_within p bs k h = grind (arith, nat_tests)
