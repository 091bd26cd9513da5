-- How a line of a plan is divided into words.
use Rattle.std.specs.Prelude.{ℕ, ◌==◌, ◌||◌, ◌&&◌, if◌then◌else◌, Bool, false, List, [], ◌∷◌, ◌++◌}
use Rattle.std.specs.List.{before_first}
use Rattle.line_reader.specs.Words.{begins_comment, words_in}

-- 40 is `(`, 41 is `)`, 42 is the star
abbrev pub is_parenthesis : ℕ → Bool
is_parenthesis byte = (byte == 40) || (byte == 41)

abbrev pub begins_count : List ℕ → Bool
begins_count [] = false
begins_count (byte ∷ rest) = byte == 42

-- a parenthesis is a word of its own, as if there were a blank before it and after it; after `)` a star continues it
abbrev pub blank_behind : ℕ → List ℕ → List ℕ
blank_behind byte rest = if (byte == 41) && begins_count rest then [] else 32 ∷ []

abbrev pub spaced : ℕ → List ℕ → List ℕ
spaced byte rest = if is_parenthesis byte then 32 ∷ byte ∷ blank_behind byte rest else byte ∷ []

abbrev pub spread : List ℕ → List ℕ
spread [] = []
spread (byte ∷ rest) = spaced byte rest ++ spread rest

-- a line's words: those up to the comment
abbrev pub words_of : List ℕ → List (List ℕ)
words_of line = words_in (spread (before_first begins_comment line))
