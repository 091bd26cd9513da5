-- Outcomes one behind the other.
use Rattle.std.proofs.Common.{◌≡◌, ◌∙◌, ◌+◌, ◌<◌, ◌&&◌, ℕ, Bool, List, ◌∷◌, ◌++◌, Some, length, get_or, drop, ap, append_assoc, append-nil, arith, rules, slice_get}
use Rattle.std.proofs.lemmas.{List.drop_more, Option.get_or_from_slice_get, Option.slice_get_within}
use Rattle.std.specs.List.{flat_map, list_all}

pub ruleset text_steps = (append_assoc, append-nil)

-- the element at a place, and those behind it
element : {A : Type 0} (xs : List A) (i : ℕ) (x : A) → slice_get xs i ≡ Some x → drop i xs ≡ x ∷ drop (i + 1) xs
element xs i x is =
    drop_more xs i x (slice_get_within xs i x is) ∙ ap (λ y. y ∷ drop (i + 1) xs) (get_or_from_slice_get xs i x x is)

-- its text, and the texts from the next on
pub texts-at : {A : Type 0} (text : A → List ℕ) (xs : List A) (i : ℕ) (x : A) → slice_get xs i ≡ Some x
    → flat_map text (drop i xs) ≡ text x ++ flat_map text (drop (i + 1) xs)
texts-at text xs i x is = ap (flat_map text) (element xs i x is)

pub all-at : {A : Type 0} (test : A → Bool) (xs : List A) (i : ℕ) (x : A) → slice_get xs i ≡ Some x
    → list_all test (drop i xs) ≡ (test x && list_all test (drop (i + 1) xs))
all-at test xs i x is = ap (list_all test) (element xs i x is)

pub ruleset place_steps = (texts-at, all-at, append_assoc, append-nil)
