-- Words that stand in a line with the whole of a list.
use Rattle.std.proofs.Common.{◌≡◌, ◌||◌, ◌==◌, ℕ, Bool, true, false, List, [], ◌∷◌, ap, length}
use Rattle.trace_text.specs.ExpectedLine.{begins_whole, has_whole}

-- they stand where a text that isn't empty begins with them
pub whole_at : (words text : List ℕ) → false ≡ (length text == 0) → true ≡ begins_whole words text → true ≡ has_whole words text
whole_at words [] some is = absurd (cc some)
whole_at words (byte ∷ rest) some is = ap (λ (here : Bool). here || has_whole words rest) is
