-- The first fault of a list, as a loop finds it.
use Rattle.std.proofs.Common.{◌≡◌, ℕ, zero, suc, ◌+◌, ◌<◌, List, [], ◌∷◌, length, get_or, drop, Option, None, ap, ◌∙◌, arith}
use Rattle.std.proofs.lemmas.List.{at_drop_more}
use Rattle.std.specs.Option.{option_or}
use Rattle.loader.specs.{declared.load_fault.LoadFault.LoadFault, Fault.earliest_in}

-- an entry without fault: the search goes on behind it
pub goes_on : {E : Type 0} (check : ℕ → E → Option LoadFault) (xs : List E) (i : ℕ) (d : E) → i < length xs
    → check i (get_or xs i d) ≡ None → earliest_in check i (drop i xs) ≡ earliest_in check 0 xs
    → earliest_in check (i + 1) (drop (i + 1) xs) ≡ earliest_in check 0 xs
goes_on check xs i d lt none so_far =
    let here : earliest_in check i (drop i xs) ≡ option_or (check i (get_or xs i d)) (earliest_in check (i + 1) (drop (i + 1) xs)) =
    at_drop_more (earliest_in check i) xs i d lt in
    grind arith

pub none_left : (a b : Option LoadFault) → option_or a b ≡ None → (a ≡ None) × (b ≡ None)
none_left a b e = grind arith

-- where there is no fault, no entry has one
pub none_in : {E : Type 0} (check : ℕ → E → Option LoadFault) (n : ℕ) (xs : List E) → earliest_in check n xs ≡ None
    → (i : ℕ) (d : E) → i < length xs → check (n + i) (get_or xs i d) ≡ None
none_in check n [] e i d lt = absurd (omega arith)
none_in check n (x ∷ xs) e zero d lt = grind (arith, none_left)
none_in check n (x ∷ xs) e (suc i) d lt =
    let one = none_in check (n + 1) xs (none_left (check n x) (earliest_in check (n + 1) xs) e).1 i d (omega arith) in
    let at : n + suc i ≡ (n + 1) + i = omega arith in
    ap (λ k. check k (get_or xs i d)) at ∙ one
