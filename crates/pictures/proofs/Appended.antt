-- What one element more of a list appends to another.
use Rattle.std.proofs.Common.{◌≡◌, ◌∙◌, ℕ, ◌+◌, ◌<◌, ◌≤◌, List, ◌++◌, length, get_or, drop, ap, sym, append_assoc, append-nil, flat_map}
use Rattle.std.proofs.lemmas.List.{drop_all}
use Rattle.trace_text.proofs.Traces.{flat_map-drop}

pub one_more : {A B : Type 0} (made : A → List B) (xs : List A) (i : ℕ) (d : A) (now next start : List B) → i < length xs
    → next ≡ now ++ made (get_or xs i d) → now ++ flat_map made (drop i xs) ≡ start ++ flat_map made xs
    → next ++ flat_map made (drop (i + 1) xs) ≡ start ++ flat_map made xs
one_more made xs i d now next start there is before =
    ap (λ t. t ++ flat_map made (drop (i + 1) xs)) is
    ∙ append_assoc now (made (get_or xs i d)) (flat_map made (drop (i + 1) xs))
    ∙ ap (λ t. now ++ t) (sym (flat_map-drop made xs i d there)) ∙ before

-- all of them are appended where no element is left
pub none_left : {A B : Type 0} (made : A → List B) (xs : List A) (i : ℕ) (now start : List B) → length xs ≤ i
    → now ++ flat_map made (drop i xs) ≡ start ++ flat_map made xs → now ≡ start ++ flat_map made xs
none_left made xs i now start enough before =
    sym (append-nil now) ∙ ap (λ rest. now ++ flat_map made rest) (sym (drop_all i xs enough)) ∙ before
