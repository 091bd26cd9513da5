-- A line that is written piece by piece.
use Rattle.std.proofs.Common.{◌≡◌, ◌++◌, ℕ, List, subst, Option, Result, Ok, Err, OnOk, codes}
use Rattle.std.proofs.KnownBytes.{Appends-trans}
use Rattle.std.specs.{Fmt.decimal, Io.KnownBytes.Appends}
use Rattle.packed_phaser.specs.Flat.{Flat, unarrived_of}
use Rattle.workbench.specs.Race.{line_of}

-- the four pieces of a phaser's line, of which the last may fail
pub line-pushed : {X E : Type 0} (last : Result X E) (a b c d e : Option (List ℕ)) (f : Flat) (p q r : ℕ)
    → p ≡ f.phase → q ≡ f.parties → r ≡ unarrived_of f
    → Appends a b (codes "phase " ++ decimal p) → Appends b c (codes " parties " ++ decimal q) → Appends c d (codes " unarrived " ++ decimal r)
    → OnOk last (Appends d e (codes "\n")) → OnOk last (Appends a e (line_of f))
line-pushed (Ok x) a b c d e f p q r phase parties unarrived first second third fourth =
    let text : ℕ × ℕ × ℕ → List ℕ = λ n. codes "phase " ++ (decimal n.0 ++ (codes " parties " ++ (decimal n.1 ++ (codes " unarrived " ++ (decimal n.2 ++ codes "\n"))))) in
    subst (λ (n : ℕ × ℕ × ℕ). Appends a e (text n)) (λ i. (phase i, parties i, unarrived i))
    (Appends-trans a b e (codes "phase " ++ decimal p) _ first
    (Appends-trans b c e (codes " parties " ++ decimal q) _ second
    (Appends-trans c d e (codes " unarrived " ++ decimal r) (codes "\n") third fourth)))
line-pushed (Err x) a b c d e f p q r phase parties unarrived first second third fourth = fourth
