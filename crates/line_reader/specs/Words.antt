-- The lines of a text and the words of a line.
use Rattle.std.specs.Prelude.{ℕ, ◌==◌, ◌||◌, ◌&&◌, not, nat_lt, Bool, List, [], ◌∷◌, length}
use Rattle.std.specs.List.{slice_split, filter, before_first}

-- LF, which ends a line
abbrev pub is_line_end : ℕ → Bool
is_line_end byte = byte == 10

-- tab, CR and the bytes from space to `~`: the bytes that a line may have
abbrev pub is_allowed : ℕ → Bool
is_allowed byte = (byte == 9) || (byte == 13) || (nat_lt 31 byte && nat_lt byte 127)

-- space, tab and CR
abbrev pub is_blank : ℕ → Bool
is_blank byte = (byte == 32) || (byte == 9) || (byte == 13)

-- a semicolon, which begins a comment
abbrev pub begins_comment : ℕ → Bool
begins_comment byte = byte == 59

-- pieces without the last one if it is empty
abbrev pub without_empty_last : List (List ℕ) → List (List ℕ)
without_empty_last [] = []
without_empty_last ([] ∷ []) = []
without_empty_last (piece ∷ pieces) = piece ∷ without_empty_last pieces

-- the pieces between line ends, in order; after the last line end there is a line only if something follows it
abbrev pub lines_of : List ℕ → List (List ℕ)
lines_of text = without_empty_last (slice_split is_line_end text)

-- the pieces between blanks that aren't empty
abbrev pub words_in : List ℕ → List (List ℕ)
words_in text = filter (λ piece. not (length piece == 0)) (slice_split is_blank text)

-- a line's words: those up to the comment
abbrev pub words_of : List ℕ → List (List ℕ)
words_of line = words_in (before_first begins_comment line)
