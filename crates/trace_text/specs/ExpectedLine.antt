-- The lines of a state, and the words in them.
use Rattle.std.specs.Prelude.{ℕ, ◌==◌, ◌||◌, ◌&&◌, not, Bool, true, false, if◌then◌else◌, List, [], ◌∷◌, Option, Some, None, codes, drop, length, take}
use Rattle.std.specs.{List.before_first, Str.bytes_eq}

abbrev pub is_line_end : ℕ → Bool
is_line_end byte = byte == 10

abbrev pub is_blank : ℕ → Bool
is_blank byte = byte == 32

-- whether these bytes are the first of a text
abbrev pub starts_with : List ℕ → List ℕ → Bool
starts_with text bytes = bytes_eq bytes (take (length bytes) text)

-- whether a word ends if this follows it
abbrev pub ends_a_word : List ℕ → Bool
ends_a_word [] = true
ends_a_word (byte ∷ rest) = byte == 32

-- whether a text begins with these words
abbrev pub begins : List ℕ → List ℕ → Bool
begins words text = starts_with text words && ends_a_word (drop (length words) text)

-- whether a line has these words in a row, with the blank before them
abbrev pub has_words : List ℕ → List ℕ → Bool
has_words words [] = false
has_words words (byte ∷ rest) = begins words (byte ∷ rest) || has_words words rest

-- whether a list of a thread's line (its registers, its stack, what it put out) begins among these words
abbrev pub names_a_list : List ℕ → Bool
names_a_list words = has_words (codes " regs") words || (has_words (codes " stack") words || has_words (codes " out") words)

-- whether such a list ends if this follows it: at the end of the line, or where the next list begins
abbrev pub ends_a_list : List ℕ → Bool
ends_a_list [] = true
ends_a_list (byte ∷ rest) = begins (codes " stack") (byte ∷ rest) || begins (codes " out") (byte ∷ rest)

-- whether a text begins with these words; if a list is among them, with the whole list
abbrev pub begins_whole : List ℕ → List ℕ → Bool
begins_whole words text = begins words text && (not (names_a_list words) || ends_a_list (drop (length words) text))

-- whether a line has these words so
abbrev pub has_whole : List ℕ → List ℕ → Bool
has_whole words [] = false
has_whole words (byte ∷ rest) = begins_whole words (byte ∷ rest) || has_whole words rest

-- the line that a text begins with
abbrev pub first_line : List ℕ → List ℕ
first_line text = before_first is_line_end text

-- the first line after a line end that begins with this word
abbrev pub later_line : List ℕ → List ℕ → Option (List ℕ)
later_line subject [] = None
later_line subject (byte ∷ rest) =
    if (byte == 10) && begins subject rest then Some (first_line rest) else later_line subject rest

-- the line of a state that begins with this word
abbrev pub line_of : List ℕ → List ℕ → Option (List ℕ)
line_of state subject = if begins subject state then Some (first_line state) else later_line subject state

-- whether some thread of a state has died: its status says so, and nothing else in a state has this word
abbrev pub has_died : List ℕ → Bool
has_died [] = false
has_died (byte ∷ rest) = starts_with (byte ∷ rest) (codes " died:") || has_died rest
