-- Lines that are written piece by piece.
use Rattle.std.proofs.Common.{◌≡◌, ◌++◌, ℕ, List, sym, subst, arith, Option, Result, OnOk}
use Rattle.std.proofs.KnownBytes.{Appends-trans}
use Rattle.std.specs.Io.KnownBytes.{Appends}
use Rattle.workbench.specs.{declared.fault.Fault.Fault, Fault.word_of}

-- two pieces, of which the last may fail
pub pushed-after : {X E : Type 0} (last : Result X E) (a b c : Option (List ℕ)) (front rest : List ℕ)
    → Appends a b front → OnOk last (Appends b c rest) → OnOk last (Appends a c (front ++ rest))
pushed-after last a b c front rest first second = grind (arith, Appends-trans)

-- the word of a refusal that is known
pub same_word : {X E : Type 0} (last : Result X E) (a b : Option (List ℕ)) (f known : Fault) → f ≡ known
    → OnOk last (Appends a b (word_of known)) → OnOk last (Appends a b (word_of f))
same_word last a b f known is pushed = subst (λ x. OnOk last (Appends a b (word_of x))) (sym is) pushed
