-- A label ends in a colon.
use Rattle.std.proofs.Common.{◌≡◌, ℕ, suc, ◌-◌, List, ◌∷◌, length, false, ◌==◌, ◌&&◌, not, arith, slice_index}
use Rattle.std.proofs.lemmas.Bool.Decides.{nat_tests}
use Rattle.line_reader.specs.Reading.{is_label}

-- the last place but one more
shorter : (n : ℕ) → suc (suc n) - 1 ≡ suc (suc n - 1)
shorter n = omega arith

-- a list of something is not empty
some : (n : ℕ) → (suc n == 0) ≡ false
some n = grind (arith, nat_tests)

pub label_by_last : (word : List ℕ) → is_label word ≡ (not (length word == 0) && (slice_index word (length word - 1) == 58))
label_by_last (byte ∷ next ∷ bytes) = grind (arith, some, shorter, label_by_last (next ∷ bytes))
label_by_last word = grind (arith, some, shorter)
