-- Texts of lists, element by element, and words of options, one behind the other.
use Rattle.std.proofs.Common.{◌≡◌, ◌≢◌, ◌∙◌, ◌+◌, ◌<◌, ℕ, zero, suc, ℤ, pos, negsuc, List, [], ◌∷◌, ◌++◌, length, get_or, drop, map, ap, sym, refl, subst, Bool, true, false, nat_lt, arith, codes, append_assoc, append-nil, rules, ltb-true, ltb-false}
use Rattle.std.proofs.lemmas.List.{drop_more, get_or_default}
use Rattle.std.specs.{Fmt.signed_decimal, List.flat_map}
use Rattle.line_reader.specs.Listing.{line_text, numbered, phase_words, spaced}

-- from one element on: its line, and the lines from the next on
pub lines-drop : {A : Type 0} (words : A → List (List ℕ)) (xs : List A) (i : ℕ) (d : A) → i < length xs
    → flat_map line_text (map words (drop i xs)) ≡ line_text (words (get_or xs i d)) ++ flat_map line_text (map words (drop (i + 1) xs))
lines-drop words xs i d there = ap (λ ys. flat_map line_text (map words ys)) (drop_more xs i d there)

-- and of lines that have their numbers
pub numbered-drop : {A : Type 0} (words : ℕ → A → List (List ℕ)) (xs : List A) (i : ℕ) (d : A) → i < length xs
    → flat_map line_text (numbered words i (drop i xs))
    ≡ line_text (words i (get_or xs i d)) ++ flat_map line_text (numbered words (i + 1) (drop (i + 1) xs))
numbered-drop words xs i d there = ap (λ ys. flat_map line_text (numbered words i ys)) (drop_more xs i d there)

pub spaced-append : (a b : List (List ℕ)) → spaced (a ++ b) ≡ spaced a ++ spaced b
spaced-append [] b = refl
spaced-append (word ∷ words) b = grind (arith, append_assoc, spaced-append words b)

-- a first phase that isn't 0 has its option
pub phase_there : (phase : ℤ) → phase ≢ pos 0 → phase_words phase ≡ codes "phase" ∷ signed_decimal phase ∷ []
phase_there phase other = grind arith

pub ruleset word_steps = (append_assoc, append-nil)

pub ruleset option_steps = (append_assoc, spaced-append)

pub ruleset text_steps = (lines-drop, numbered-drop)

pub ruleset operand_steps = (drop_more, append_assoc)

-- what holds of the elements before a place, and of the one there
pub one_more : {A : Type 0} (P : A → Type 0) (xs : List A) (n : ℕ) (x : A) → n < length xs
    → ((k : ℕ) → (d : A) → k < n → P (get_or xs k d)) → P (get_or xs n x) → (k : ℕ) → (d : A) → k < n + 1 → P (get_or xs k d)
one_more P xs n x within before here k d below = grind (arith, ltb-true, ltb-false, get_or_default)
