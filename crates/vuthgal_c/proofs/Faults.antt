-- Of texts that are written in pieces.
use Rattle.std.proofs.Common.{◌≡◌, ℕ, List, ◌++◌, Option, Result, Ok, Err, subst, OnOk}
use Rattle.std.proofs.KnownBytes.{Appends-trans}
use Rattle.std.specs.Io.KnownBytes.{Appends}

-- three pieces one after another, of which the last may fail
pub pieces_pushed : {X E : Type 0} (last : Result X E) (a b c d : Option (List ℕ)) (x told y z : List ℕ) → told ≡ y → Appends a b x → Appends b c told
    → OnOk last (Appends c d z) → OnOk last (Appends a d (x ++ (y ++ z)))
pieces_pushed (Ok done) a b c d x told y z is first second third =
    subst (λ (w : List ℕ). Appends a d (x ++ (w ++ z))) is (Appends-trans a b d x (told ++ z) first (Appends-trans b c d told z second third))
pieces_pushed (Err f) a b c d x told y z is first second third = third
