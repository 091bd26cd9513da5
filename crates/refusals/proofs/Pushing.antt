-- Texts that are written piece by piece.
use Rattle.std.proofs.Common.{◌≡◌, ◌++◌, ℕ, List, subst, Option, Result, Ok, Err, OnOk}
use Rattle.std.proofs.KnownBytes.{Appends-trans}
use Rattle.std.specs.Io.KnownBytes.{Appends}
use Rattle.refusals.specs.Entry.{line}

-- a piece that was written, and what follows it, which may fail
pub then : {X E : Type 0} (last : Result X E) (a b c : Option (List ℕ)) (first rest : List ℕ)
    → Appends a b first → OnOk last (Appends b c rest) → OnOk last (Appends a c (first ++ rest))
then (Ok x) a b c first rest is follows = Appends-trans a b c first rest is follows
then (Err x) a b c first rest is follows = follows

-- a line that was written, whose text is this
pub same_line : (a b : Option (List ℕ)) (label text told : List ℕ) → text ≡ told
    → Appends a b (line label text) → Appends a b (line label told)
same_line a b label text told is = subst (λ t. Appends a b (line label t)) is
