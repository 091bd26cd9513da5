-- A list that was extended by what an iterator yields.
use Rattle.std.proofs.Common.{◌≡◌, List, Option, map, Result, OnOk, MatchResult}
use Rattle.std.proofs.lemmas.Iterator.{YieldsList, Adapters.fact_from_extend, Consumers.YieldsList-at}
use Rattle.std.specs.Iterator.{Drains, Yields}

-- where `extend` is passed a chain s whose items are read by v: at `Ok` the clause holds of items that are read as all
pub read_from_extend : {T A B E Q : Type 0} {steps : T → Option A → T → Type 0} {v : A → B} {all : List B} {P : List A → Type 0}
    {s : T} (r : Result (Unit {0}) E)
    → ((it : T) × (xs : List A) × (it ≡ s) × P xs × MatchResult r (λ _. Drains steps it xs) (λ _. (t : T) × Yields steps it xs t))
    → YieldsList steps v s all → ((xs : List A) → map v xs ≡ all → P xs → Q) → OnOk r Q
read_from_extend {v = v} r ran road says = fact_from_extend v r ran (λ it is. YieldsList-at is road) says
