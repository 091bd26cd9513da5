-- The first line of a text that is being read. Only proofs use this: no promise depends on it.
use Rattle.std.specs.Prelude.{◌≡◌, ℕ, ◌+◌, ◌≤◌, ◌&&◌, not, nat_lt, Bool, List, [], ◌∷◌, length}
use Rattle.std.specs.List.{after_first, before_first, list_all, position_or_len}
use Rattle.line_reader.specs.Words.{begins_comment, is_allowed, is_line_end}

-- a byte that is part of a word, wherever it is before a comment: from `!` to `~`, except `;`
abbrev pub is_letter : ℕ → Bool
is_letter byte = nat_lt 32 byte && (nat_lt byte 127 && not (begins_comment byte))

-- a piece as a word, if it isn't empty
abbrev pub word_alone : List ℕ → List (List ℕ)
word_alone [] = []
word_alone (byte ∷ bytes) = (byte ∷ bytes) ∷ []

-- a text's first line, and what follows its end
abbrev pub first_line : List ℕ → List ℕ
first_line text = before_first is_line_end text

abbrev pub after_line : List ℕ → List ℕ
after_line text = after_first is_line_end text

-- a text was read up to this rest, which has the end of its first line, and shows whether the line has only allowed bytes
pub record IsLeft (text rest : List ℕ) : Type 0 where
  pub after : after_line text ≡ after_line rest
  pub allowed : list_all is_allowed (first_line text) ≡ list_all is_allowed (first_line rest)
  pub within : length rest ≤ length text
  pub long : position_or_len is_line_end text + length rest ≡ length text + position_or_len is_line_end rest
