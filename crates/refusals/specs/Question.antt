-- Which words request which entry: words request an entry if they fit one of its patterns.
use Rattle.std.specs.Prelude.{◌≡◌, ◌⊎◌, ◌<◌, ◌^◌, ◌==◌, ℕ, Bool, ◌||◌, true, false, if◌then◌else◌, List, [], ◌∷◌, Option, Some, None, codes, bytes_eq, map}
use Rattle.std.specs.{Bool.MatchBool, Borrow.Bor, Str.Parse.IsNumeral, Str.Parse.digits_value}
use Rattle.refusals.specs.declared.{entry.Entry.Entry, entry.Place.Place, question.Question.Question}

-- digits, and nothing else, spell this number, which fits 64 bits
abbrev pub Spells : List ℕ → ℕ → Type 0
Spells text number = IsNumeral 10 text × (digits_value 10 text ≡ number) × (number < 2 ^ 64)

-- a word of a pattern that begins with a blank is the number of a place, and what it counts
abbrev pub is_place : List ℕ → Bool
is_place [] = false
is_place (byte ∷ bytes) = byte == 32

-- a word is the place's number
abbrev pub IsPlace : List ℕ → List ℕ → Option Place → Type 0
IsPlace asked word None = ⊥
IsPlace asked word (Some place) = (place.word.now ≡ asked) × Spells word place.number

-- these words fit a pattern, and have this place, the first, if they have one: `_` is any word, `..` is all words from there
-- on, and any other word is itself
abbrev pub Fits : List (List ℕ) → List (List ℕ) → Option Place → Type 0
Fits [] [] place = place ≡ None
Fits [] (word ∷ words) place = ⊥
Fits (asked ∷ pattern) [] place = (bytes_eq asked (codes "..") ≡ true) × (place ≡ None)
Fits (asked ∷ pattern) (word ∷ words) place =
    MatchBool (bytes_eq asked (codes "..")) (place ≡ None)
    (MatchBool (is_place asked) (IsPlace asked word place × ((other : Option Place) × Fits pattern words other))
    (MatchBool (bytes_eq asked (codes "_") || bytes_eq asked word) (Fits pattern words place) ⊥))

-- the words of a pattern, or of a line
abbrev pub texts : List (Bor (List ℕ)) → List (List ℕ)
texts words = map (λ w. w.now) words

-- words fit one of these patterns
abbrev pub FitOne : List (Bor (List (Bor (List ℕ)))) → List (List ℕ) → Option Place → Type 0
FitOne [] words place = ⊥
FitOne (pattern ∷ patterns) words place = Fits (texts pattern.now) words place ⊎ FitOne patterns words place

-- words ask for an entry of a table, and have this place
abbrev pub AsksIn : List Entry → List (List ℕ) → Question → Type 0
AsksIn [] words q = ⊥
AsksIn (entry ∷ entries) words q = ((q.entry ≡ entry) × FitOne entry.asked.now words q.place) ⊎ AsksIn entries words q

-- words ask for an entry of one of several tables, and have this place
abbrev pub AsksAmong : List (Bor (List Entry)) → List (List ℕ) → Question → Type 0
AsksAmong [] words q = ⊥
AsksAmong (table ∷ tables) words q = AsksIn table.now words q ⊎ AsksAmong tables words q

-- the word `refused` may be left out
abbrev pub without_refused : List (List ℕ) → List (List ℕ)
without_refused [] = []
without_refused (word ∷ words) = if bytes_eq word (codes "refused") then words else word ∷ words

-- the words of a line ask for an entry of these tables, and have this place
abbrev pub AsksFor : List (Bor (List Entry)) → List (List ℕ) → Question → Type 0
AsksFor tables words = AsksAmong tables (without_refused words)
