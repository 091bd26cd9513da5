-- Where in an input something is, as numbers.
use Rattle.std.specs.Prelude.{◌≡◌, ◌⊎◌, ◌+◌, ◌++◌, ◌∷◌, [], ℕ, List, length, min, Option, Some, None}
use Rattle.std.specs.List.{count_by}
use Rattle.line_reader.specs.Words.{is_line_end}
use Rattle.assembler.specs.declared.word_place.WordPlace.{WordPlace}
use Rattle.vuthgal_c.specs.declared.place.PlaceLook.{PlaceLook}

abbrev pub no_place : PlaceLook
no_place = record { line = 0; column = 0; length = 0; input = 0 }

-- a word of the line of this number, or the whole line
abbrev pub word_place : (line : ℕ) → Option WordPlace → (input : ℕ) → PlaceLook
word_place line None input = record { line = line; column = 0; length = 0; input = input }
word_place line (Some word) input =
    record { line = line; column = min (word.at + 1) 18446744073709551615; length = word.length; input = input }

-- whole lines, each with its LF
abbrev pub AreWholeLines : List ℕ → Type 0
AreWholeLines bytes = (bytes ≡ []) ⊎ ((front : List ℕ) × (bytes ≡ front ++ 10 ∷ []))

-- the byte behind these: whole lines, and what is before the byte in its own line
pub record IsBehind (front : List ℕ) (number column : ℕ) : Type 0 where
  pub lines : List ℕ
  pub own : List ℕ
  pub all : front ≡ lines ++ own
  pub whole : AreWholeLines lines
  pub ended : number ≡ count_by is_line_end lines + 1
  pub none : count_by is_line_end own ≡ 0
  pub begun : column ≡ length own + 1

abbrev pub IsByteAt : (front : List ℕ) (input : ℕ) → PlaceLook → Type 0
IsByteAt front input place = IsBehind front place.line place.column × (place.length ≡ 1) × (place.input ≡ input)
