-- What the remaining lines lead to in a comparison. Only proofs use this, from line to line: no promise depends on it.
use Rattle.std.specs.Prelude.{◌≡◌, ◌⊎◌, ◌==◌, [], ◌∷◌, ◌+◌, ◌-◌, ◌<◌, ◌≤◌, ◌++◌, ◌&&◌, ◌||◌, not, ℕ, Bool, false, true, List, decimal, drop, length, take, if◌then◌else◌, Option, Some, None}
use Rattle.std.specs.{Io.KnownBytes.IsAtEnd, List.count_by, List.slice_split}
use Rattle.byte_ports.specs.{SourceLines.Lines, declared.source_lines.LineEnded.LineEnded}
use Rattle.byte_ports.specs.declared.source_lines.LineEnded.TheVariants as how
use Rattle.line_reader.specs.Words.{is_line_end}
use Rattle.thread_machine.specs.World.{world_of}
use Rattle.trace_compare.specs.declared.comparison.{Comparison.Comparison, Verdict.Verdict}
use Rattle.trace_compare.specs.Compare.{IsReadUpTo, Reported, choices_in, line_at, line_by, lines_verdict, state_verdict}
use Rattle.trace_compare.specs.NamedLines.{HasGone, none_read}
use Rattle.trace_compare.specs.declared.comparison.Verdict.TheVariants as verdict
use Rattle.trace_text.specs.{Reading.is_state_line, State.state_text, Trace.trace_of}

-- a verdict that was reached, and otherwise what the rest leads to
abbrev pub decided : Option Verdict → Verdict → Verdict
decided (Some verdict) rest = verdict
decided None rest = rest

abbrev pub lines_left : Comparison → List (List ℕ) → Verdict
lines_left now lines =
    if now.is_state then state_verdict (drop now.at now.text.items) now.number lines
    else lines_verdict now.accepted (world_of now.machine) now.number lines

-- lines begin with that of a state
abbrev pub is_state_first : List (List ℕ) → Bool
is_state_first [] = false
is_state_first (line ∷ lines) = is_state_line line

-- the run's text from its next line on, by the remaining lines. After a line that differs nothing is kept: nothing is read
-- after it.
abbrev pub text_left : Comparison → List (List ℕ) → List ℕ
text_left now lines =
    if now.is_state then drop now.at now.text.items
    else (if now.accepted then trace_of (world_of now.machine) (choices_in lines)
    else (if now.missed && not (is_state_first lines) then now.expected else state_text (world_of now.machine)))

-- what is reported, by the remaining lines
abbrev pub reported_left : Comparison → List (List ℕ) → Reported
reported_left now lines =
    let v = lines_left now lines in record { verdict = v; line = line_by v now.number (text_left now lines) }

-- the run's line of the choice that was just played, if its number is kept beside it
abbrev pub line_played : Comparison → List ℕ
line_played now = decimal now.next ++ now.expected

-- the run's line that a comparison has if one differs
abbrev pub line_kept : Comparison → Option (List ℕ)
line_kept now =
    line_at 0 (if now.is_state then drop now.at now.text.items
    else (if now.accepted || now.missed then now.expected else state_text (world_of now.machine)))

-- what is reported with it
abbrev pub reported_by : Verdict → Comparison → Reported
reported_by (verdict.Differs n) now = record { verdict = verdict.Differs n; line = line_kept now }
reported_by v now = record { verdict = v; line = None }

-- whether a line that ended so is one: an empty rest after the last LF isn't
abbrev pub is_one : LineEnded → List ℕ → Bool
is_one how.AtEnd line = not (length line == 0)
is_one ended line = true

-- whether a verdict names the line of this number
abbrev pub names_line : Verdict → ℕ → Bool
names_line verdict.Same n = false
names_line (verdict.Differs at) n = at == n
names_line (verdict.NotATrace at) n = at == n

-- a line was the run's, or it differs and is kept
abbrev pub MeetsText : Comparison → Comparison → List ℕ → List (List ℕ) → Option Verdict → Type 0
MeetsText before after line lines None = text_left before (line ∷ lines) ≡ (line ++ 10 ∷ []) ++ text_left after lines
MeetsText before after line lines (Some (verdict.Differs n)) =
    (n ≡ before.number) × (line_at 0 (text_left before (line ∷ lines)) ≡ line_kept after)
MeetsText before after line lines (Some v) = Unit {0}

-- a line of the state text was taken last
abbrev pub StandsBehind : Comparison → List ℕ → Type 0
StandsBehind now line =
    (length line + 1 ≤ now.at)
    × (drop (now.at - (length line + 1)) now.text.items ≡ (line ++ 10 ∷ []) ++ drop now.at now.text.items)

-- no further line came after this one: the line that differs is the one that should have come, or this one, which should come
-- again
abbrev pub HasEndedBehind : Comparison → Comparison → List ℕ → Verdict → Type 0
HasEndedBehind before after line (verdict.Differs n) =
    line_by (verdict.Differs n) (before.number - 1) ((line ++ 10 ∷ []) ++ text_left before []) ≡ line_kept after
HasEndedBehind before after line v = Unit {0}

-- not all is said: something of the state text is due, or of the trace left
abbrev pub IsOpen : Comparison → List ℕ → List (List ℕ) → Type 0
IsOpen now line lines =
    now.is_state ≡ true → 0 < length (drop now.at now.text.items) + (length line + length lines)

-- what the remaining bytes lead to
abbrev pub bytes_left : Comparison → List ℕ → Reported
bytes_left now bytes = reported_left now (slice_split is_line_end bytes)

-- how many lines end in these bytes
abbrev pub line_ends : List ℕ → ℕ
line_ends bytes = count_by is_line_end bytes

-- the state's line hasn't come, and all choices so far were accepted
abbrev pub IsReading : Comparison → Type 0
IsReading now = (now.is_state ≡ false) × (now.accepted ≡ true)

-- so many of these bytes are the run's own lines, each of them is counted, and what follows them leads to the same
pub record GoesOver (before after : Comparison) (bytes : List ℕ) (count : ℕ) : Type 0 where
  pub within : count ≤ length bytes
  pub left : (more : List ℕ) → bytes_left before (bytes ++ more) ≡ bytes_left after (drop count bytes ++ more)
  pub counted : before.number + line_ends (take count bytes) ≤ after.number
  pub number : after.number ≤ before.number + count
  pub text : after.text ≡ before.text
  pub at : after.at ≡ before.at

-- a verdict names the line with this number, or a later one
abbrev pub StandsFrom : ℕ → Verdict → Type 0
StandsFrom n verdict.Same = ⊥
StandsFrom n (verdict.Differs line) = n ≤ line
StandsFrom n (verdict.NotATrace line) = n ≤ line

-- a line is counted unless a verdict was reached that names this line or a later one
abbrev pub HasCounted : ℕ → ℕ → Option Verdict → Type 0
HasCounted before after None = after ≡ before + 1
HasCounted before after (Some v) = StandsFrom before v

-- a line that ended so was the run's, or it led to a verdict that doesn't depend on anything after it, if something may follow
abbrev pub HasJudged : Comparison → Comparison → LineEnded → List ℕ → Option Verdict → Type 0
HasJudged before after ended line None =
    (ended ≡ how.Whole) × (after.number ≡ before.number + 1)
    × ((rest : List ℕ) → bytes_left before ((line ++ 10 ∷ []) ++ rest) ≡ bytes_left after rest)
HasJudged before after how.Whole line (Some v) =
    StandsFrom before.number v × ((rest : List ℕ) → bytes_left before ((line ++ 10 ∷ []) ++ rest) ≡ reported_by v after)
HasJudged before after how.AtEnd line (Some v) =
    ((v ≡ verdict.Same) ⊎ StandsFrom before.number v) × (bytes_left before line ≡ reported_by v after)
HasJudged before after how.TooLong line (Some v) =
    StandsFrom before.number v × ((rest : List ℕ) → bytes_left before (line ++ rest) ≡ reported_by v after)

-- these bytes report this: the trace ends with them, or whatever comes after them makes no difference
abbrev pub HasLeft : Comparison → List ℕ → Option (List ℕ) → Reported → Type 0
HasLeft now bytes left told =
    (IsAtEnd left × (bytes_left now bytes ≡ told)) ⊎ ((rest : List ℕ) → bytes_left now (bytes ++ rest) ≡ told)

-- a comparison that began so is here after at least as many lines that led to no verdict: each took at least one byte, and what
-- is held and what still comes lead to the same
pub record HasComeTo (first now : Comparison) (lines : Lines) (turns : ℕ) (before after : Option (List ℕ)) : Type 0 where
  pub bytes : List ℕ
  pub gone : HasGone bytes none_read lines before after
  pub left : (more : List ℕ) → bytes_left first (bytes ++ (lines.held ++ more)) ≡ bytes_left now (lines.held ++ more)
  pub counted : 1 + line_ends bytes ≤ now.number
  pub some : turns ≤ length bytes
  pub far : IsReadUpTo now.number before after
