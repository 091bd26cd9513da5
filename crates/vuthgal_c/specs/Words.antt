-- The words of a text.
use Rattle.std.specs.Prelude.{◌≡◌, ◌<◌, ℕ, List, [], ◌∷◌, ◌++◌, length}
use Rattle.std.specs.{Str.NoCharPasses, List.AllPass, Char.is_ascii_whitespace}

-- only ASCII blanks
abbrev pub AreBlanks : List ℕ → Type 0
AreBlanks = AllPass is_ascii_whitespace

-- these are the words of a text, in their order: no blank is in one, and nothing but blanks between them
abbrev pub AreWordsOf : (text : List ℕ) → List (List ℕ) → Type 0
AreWordsOf text [] = AreBlanks text
AreWordsOf text (word ∷ words) =
    (0 < length word) × NoCharPasses is_ascii_whitespace word
    × (before : List ℕ) × (behind : List ℕ) × (rest : List ℕ) × (text ≡ before ++ (word ++ (behind ++ rest)))
    × AreBlanks before × AreBlanks behind × (length behind ≡ 0 → length rest ≡ 0) × AreWordsOf rest words
