-- Numbers of one digit.
use Rattle.std.proofs.Common.{◌≡◌, ◌+◌, ℤ, pos, negsuc, ◌≤ℤ◌, ◌<ℤ◌, [], ◌∷◌, arith, append_assoc, unsigned_abs, rules}
use Rattle.std.proofs.lemmas.{Fmt.decimal_digit, Int.ints}
use Rattle.std.specs.Fmt.{signed_decimal}

pub one_digit : (z : ℤ) → pos 0 ≤ℤ z → z <ℤ pos 10 → signed_decimal z ≡ (48 + unsigned_abs z) ∷ []
one_digit z there small = grind (arith, decimal_digit, ints)

pub ruleset digit_steps = (append_assoc, one_digit)
