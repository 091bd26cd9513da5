-- The lines of a source, as a caller sees them.
use Rattle.std.specs.Prelude.{◌≡◌, ◌≤◌, ◌+◌, ◌==◌, ℕ, All, Bool, false, List, [], ◌∷◌, ◌++◌, length, Option, Result, Ok, Err}
use Rattle.std.specs.Io.KnownBytes.{IsAtEnd}
use Rattle.byte_ports.specs.declared.{failed.Failed.Failed, source_lines.LineEnded.LineEnded}
use Rattle.byte_ports.specs.declared.source_lines.LineEnded.TheVariants as ended

-- the last line without its LF, what was read and not taken yet, and how often the source was read
pub record Lines : Type 0 where
  pub line : List ℕ
  pub held : List ℕ
  pub reads : ℕ

-- an LF
abbrev pub is_lf : ℕ → Bool
is_lf byte = byte == 10

-- none of these bytes is one
abbrev pub IsOneLine : List ℕ → Type 0
IsOneLine bytes = All (λ byte. is_lf byte ≡ false) bytes

-- the bytes that were taken with a line
abbrev pub taken : Result LineEnded Failed → List ℕ → List ℕ
taken (Ok ended.Whole) line = line ++ 10 ∷ []
taken (Ok ended.AtEnd) line = line
taken (Ok ended.TooLong) line = line
taken (Err failed) line = []

-- a line was read and ended in this way, and these bytes are left after it
abbrev pub HasCome : LineEnded → List ℕ → Option (List ℕ) → Type 0
HasCome ended.Whole line left = length line ≤ 65536
HasCome ended.AtEnd line left = (length line ≤ 65536) × IsAtEnd left
HasCome ended.TooLong line left = length line ≡ 65537

-- the bytes of one line, and after them a piece of a source
abbrev pub EndsInAPiece : List ℕ → Type 0
EndsInAPiece bytes =
    (front : List ℕ) × ((piece : List ℕ) × ((bytes ≡ front ++ piece) × IsOneLine front × (length piece ≤ 16384)))

-- each read returned at least one byte, and so many bytes were taken
abbrev pub Gave : Lines → Lines → ℕ → Type 0
Gave before after count = after.reads + length before.held ≤ before.reads + (count + length after.held)
