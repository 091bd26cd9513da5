use Rattle.std.proofs.Common.{◌≡◌, ℤ, ◌+ℤ◌, ◌-ℤ◌, FitsSigned, arith}
use Rattle.std.proofs.lemmas.Int.{wrapping_add_is, wrapping_sub_is}
use Rattle.std.specs.Int.{w32, int_wrapping_add, int_wrapping_sub}
use Rattle.instruction_table.specs.LocalRows.{wrapped}

-- what is left of a number at a signed type of 32 bits
pub sum_is_wrapped : (a b : ℤ) → FitsSigned w32 a → FitsSigned w32 b → int_wrapping_add w32 a b ≡ wrapped (a +ℤ b)
sum_is_wrapped a b f g = grind (arith, wrapping_add_is)

pub difference_is_wrapped : (a b : ℤ) → FitsSigned w32 a → FitsSigned w32 b → int_wrapping_sub w32 a b ≡ wrapped (a -ℤ b)
difference_is_wrapped a b f g = grind (arith, wrapping_sub_is)
