-- What the lines that are left add to what those before them added.
use Rattle.std.proofs.Common.{◌≡◌, ℕ, ◌<◌, List, [], ◌∷◌, ◌++◌, length, get_or, drop, map, All, arith}
use Rattle.std.proofs.{Math.Seq.drop-cons, lemmas.List.Elements.recursion_from_All}
use Rattle.std.specs.List.{flat_map, AllByRecursion}

front_of : {A : Type 0} (P : A → Type 0) (xs ys : List A) → AllByRecursion P (xs ++ ys) → AllByRecursion P xs
front_of P [] ys h = tt
front_of P (x ∷ xs) ys h = (h.0, front_of P xs ys h.1)

back_of : {A : Type 0} (P : A → Type 0) (xs ys : List A) → AllByRecursion P (xs ++ ys) → AllByRecursion P ys
back_of P [] ys h = h
back_of P (x ∷ xs) ys h = back_of P xs ys h.1

-- what the next line adds has what all of the total has
pub next_has : {A B X : Type 0} (P : A → Type 0) (added : B → List A) (seen : X → B) (xs : List X) (i : ℕ) (d : X) (front total : List A) →
    i < length xs → front ++ flat_map added (map seen (drop i xs)) ≡ total → All P total → AllByRecursion P (added (seen (get_or xs i d)))
next_has {A} B added seen xs i d front total within e all = grind (arith, drop-cons, recursion_from_All, front_of, back_of)
