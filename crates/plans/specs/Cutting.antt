-- Where the words of a line end. It carries the proof alone: no public contract names it, and nobody has to believe it.
use Rattle.std.specs.Prelude.{ℕ, ◌||◌, Bool, List, [], ◌∷◌}
use Rattle.line_reader.specs.Words.{is_blank}
use Rattle.plans.specs.Words.{is_parenthesis}

-- a byte that no word continues with
abbrev pub parts_words : ℕ → Bool
parts_words byte = is_parenthesis byte || is_blank byte

-- a piece as a word, unless it is empty
abbrev pub word_alone : List ℕ → List (List ℕ)
word_alone [] = []
word_alone (byte ∷ bytes) = (byte ∷ bytes) ∷ []
