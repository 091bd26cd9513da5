-- How many bytes an input may have, and what it means that all of them were read.
use Rattle.std.specs.Prelude.{ℕ, ◌+◌, ◌<◌, ◌≤◌, Bool, true, false, List, ◌++◌, length, Option}
use Rattle.std.specs.Io.KnownBytes.{Consumes, IsAtEnd}

-- how many bytes an input may have
abbrev pub most_bytes : ℕ
most_bytes = 16777216

-- a source gave more bytes than an input may have
abbrev pub GivesTooMuch : Option (List ℕ) → Option (List ℕ) → Type 0
GivesTooMuch before after =
    (bytes : List ℕ) × Consumes before after bytes × (most_bytes < length bytes)

-- a source gave this text, no longer than an input may be, and has nothing left
abbrev pub GivesAll : Option (List ℕ) → Option (List ℕ) → List ℕ → Type 0
GivesAll before after text = Consumes before after text × IsAtEnd after × (length text ≤ most_bytes)

-- a source gave this text first, no longer than an input may be; if that is the whole, it has nothing left
abbrev pub GivesFront : Option (List ℕ) → Option (List ℕ) → List ℕ → (is_whole : Bool) → Type 0
GivesFront before after text true = GivesAll before after text
GivesFront before after text false =
    (others : List ℕ) × (Consumes before after (text ++ others) × (length text ≤ most_bytes))

-- each of so many reads returned a byte
abbrev pub GivesInEach : ℕ → Option (List ℕ) → Option (List ℕ) → Type 0
GivesInEach reads before after = (bytes : List ℕ) × (Consumes before after bytes × (reads ≤ length bytes))

-- so many of so many reads are left, and each of the others returned at most one byte
abbrev pub IsCounted : ℕ → ℕ → Option (List ℕ) → Option (List ℕ) → Type 0
IsCounted reads_before reads_after before after =
    (bytes : List ℕ) × (Consumes before after bytes × (length bytes + reads_after ≤ reads_before))
