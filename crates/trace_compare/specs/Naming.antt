-- Which choices a trace names.
use Rattle.std.specs.Prelude.{◌≡◌, ◌⊎◌, ℕ, ◌+◌, if◌then◌else◌, List, [], ◌∷◌, ◌++◌, Option, Some, None, Result, Ok, Err}
use Rattle.std.specs.{Io.KnownBytes.Consumes, Io.KnownBytes.IsAtEnd, List.slice_split}
use Rattle.line_reader.specs.Words.{is_line_end}
use Rattle.thread_machine.specs.declared.choice.Choice.{Choice}
use Rattle.trace_text.specs.Reading.{choice_in, is_state_line, is_too_long}
use Rattle.trace_compare.specs.declared.line_names.LineNames.{LineNames}
use Rattle.trace_compare.specs.declared.line_names.LineNames.TheVariants as names

-- a choice if the line names one
abbrev pub named : Option Choice → LineNames
named None = names.Nothing
named (Some choice) = names.Made choice

-- what a line up to the state line names
abbrev pub line_names : List ℕ → LineNames
line_names line =
    if is_too_long line then names.Nothing
    else (if is_state_line line then names.State else named (choice_in line))

-- the choices of the lines up to the state's line, or up to the first line that isn't a line of a trace, which has this number
pub record Naming : Type 0 where
  pub choices : List Choice
  pub no_line : Option ℕ

-- no line more names one
abbrev pub ended : Option ℕ → Naming
ended no_line = record { choices = []; no_line = no_line }

-- choices before those of the lines after them
abbrev pub behind_choices : List Choice → Naming → Naming
behind_choices choices rest = record { choices = choices ++ rest.choices; no_line = rest.no_line }

-- what a line and those after it name
abbrev pub naming_by : LineNames → ℕ → Naming → Naming
naming_by names.Nothing n rest = ended (Some n)
naming_by names.State n rest = ended None
naming_by (names.Made choice) n rest = behind_choices (choice ∷ []) rest

-- what lines name; the first has this number
abbrev pub naming_from : ℕ → List (List ℕ) → Naming
naming_from n [] = ended (Some n)
naming_from n (line ∷ lines) = naming_by (line_names line) n (naming_from (n + 1) lines)

-- what a whole trace names; its last line is what follows the last LF
abbrev pub naming_of : List ℕ → Naming
naming_of trace = naming_from 1 (slice_split is_line_end trace)

-- its choices, or the number of the line
abbrev pub choices_or_line : List Choice → Option ℕ → Result (List Choice) ℕ
choices_or_line choices None = Ok choices
choices_or_line choices (Some line) = Err line

-- the choices that a trace names
abbrev pub choices_named : List ℕ → Result (List Choice) ℕ
choices_named trace = choices_or_line (naming_of trace).choices (naming_of trace).no_line

-- lines that begin with these bytes name this; the first has this number. They end with them, or whatever comes after them
-- makes no difference
abbrev pub Names : ℕ → List ℕ → Option (List ℕ) → Naming → Type 0
Names n bytes left is =
    (IsAtEnd left × (naming_from n (slice_split is_line_end bytes) ≡ is))
    ⊎ ((rest : List ℕ) → naming_from n (slice_split is_line_end (bytes ++ rest)) ≡ is)

-- a trace was read as far as necessary, and names this
abbrev pub HasRead : Option (List ℕ) → Option (List ℕ) → Naming → Type 0
HasRead before after is = (bytes : List ℕ) × (Consumes before after bytes × Names 1 bytes after is)

-- a trace was read so far, and these are its choices, or the number of the line that is none of a trace
abbrev pub HasNamed : Option (List ℕ) → Option (List ℕ) → Result (List Choice) ℕ → Type 0
HasNamed before after is =
    (naming : Naming) × (HasRead before after naming × (is ≡ choices_or_line naming.choices naming.no_line))
