-- What a text can expect of the end of a run, and of the state at this end.
use Rattle.std.specs.Prelude.{ℕ, ◌==◌, ◌||◌, ◌&&◌, not, nat_lt, nat_le, Bool, false, if◌then◌else◌, List, [], ◌∷◌, Option, Some, None, codes, drop, is_none, is_some, length}
use Rattle.std.specs.{Global.Vec, List.before_first, List.list_all, List.position_or_len, Str.bytes_eq}
use Rattle.thread_machine.specs.declared.standing.Standing.{Standing}
use Rattle.thread_machine.specs.declared.standing.Standing.TheVariants as standing
use Rattle.trace_text.specs.declared.run_end.RunEnd.{RunEnd}
use Rattle.trace_text.specs.ExpectedLine.{has_died, has_whole, is_blank, line_of}

-- a digit, as a byte
abbrev is_digit : ℕ → Bool
is_digit byte = nat_le 48 byte && nat_le byte 57

-- what a word for how a run ends requires in the line `state`, with the blank before it
abbrev pub end_words : List ℕ → Option (List ℕ)
end_words text =
    if bytes_eq text (codes "all") then Some (codes " all")
    else (if bytes_eq text (codes "ended") then Some (codes " all")
    else (if bytes_eq text (codes "stuck") then Some (codes " stuck")
    else (if bytes_eq text (codes "live") then Some (codes " live") else None)))

-- the word that names the line that a text is about
abbrev pub subject_of : List ℕ → List ℕ
subject_of text = before_first is_blank text

-- the words that are expected in that line, with the blank before them
abbrev pub words_of : List ℕ → List ℕ
words_of text = drop (position_or_len is_blank text) text

-- whether a text is an expectation: a word for how a run ends, or a name with words after it
abbrev pub is_expectation : List ℕ → Bool
is_expectation text = is_some (end_words text) || (nat_lt 0 (length (subject_of text)) && nat_lt 1 (length (words_of text)))

-- whether a line, if there is one, has these words in a row, and of a list the whole
abbrev pub has_in_line : List ℕ → Option (List ℕ) → Bool
has_in_line words None = false
has_in_line words (Some line) = has_whole words line

-- whether the line of a state that begins with this word has these words in a row
abbrev pub says : List ℕ → List ℕ → List ℕ → Bool
says state subject words = has_in_line words (line_of state subject)

-- the word of a cell: `c` and its number, 0 to 31
abbrev pub is_cell : List ℕ → Bool
is_cell (letter ∷ units ∷ []) = letter == 99 && is_digit units
is_cell (letter ∷ tens ∷ units ∷ []) =
    letter == 99 && (((tens == 49 || tens == 50) && is_digit units) || (tens == 51 && (units == 48 || units == 49)))
is_cell _ = false

-- whether 0 is expected of a cell that has no line: a cell that is 0 has none
abbrev pub is_zero_cell : List ℕ → List ℕ → List ℕ → Bool
is_zero_cell state subject words =
    bytes_eq words (codes " 0") && (is_cell subject && is_none (line_of state subject))

-- whether every thread has ended, and none has died
abbrev pub have_ended : List ℕ → Bool
have_ended state = says state (codes "state") (codes " all") && not (has_died state)

-- whether a state has the words of an end in its line `state`, or else these words in the line of this subject
abbrev pub is_met_by_words : Option (List ℕ) → List ℕ → List ℕ → List ℕ → Bool
is_met_by_words (Some end) state subject words = says state (codes "state") end
is_met_by_words None state subject words = says state subject words || is_zero_cell state subject words

-- whether a state, by its text, is as a text expects
abbrev pub is_met : List ℕ → List ℕ → Bool
is_met state text =
    if bytes_eq text (codes "ended") then have_ended state
    else is_met_by_words (end_words text) state (subject_of text) (words_of text)

-- whether it is as all of them expect
abbrev pub are_met : List ℕ → List (Vec ℕ) → Bool
are_met state texts = list_all (λ (text : Vec ℕ). is_met state text.items) texts

-- whether a text expects all to have ended, and whether it expects this end
abbrev pub wants_all : List ℕ → Bool
wants_all text = bytes_eq text (codes "all") || bytes_eq text (codes "ended")

abbrev pub wants_stuck : List ℕ → Bool
wants_stuck text = bytes_eq text (codes "stuck")

abbrev pub wants_live : List ℕ → Bool
wants_live text = bytes_eq text (codes "live")

-- whether a text allows this end of a program: it isn't the word for another one
abbrev pub allows : List ℕ → Standing → Bool
allows text standing.All = not (wants_stuck text || wants_live text)
allows text standing.Stuck = not (wants_all text || wants_live text)
allows text standing.Live = not (wants_all text || wants_stuck text)

-- whether a run ended as a text expects: no choice was refused, and the state and the word for it are as expected
abbrev pub is_end_expected : RunEnd → List ℕ → Bool
is_end_expected end text = is_none end.refused && (allows text end.standing && is_met end.state.items text)
