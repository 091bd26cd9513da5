-- A trace's lines, one after another, as `next_name` reads them. Only proofs use this, from line to line: the promise about a
-- whole trace (`HasNamed`) doesn't depend on it.
use Rattle.std.specs.Prelude.{◌≡◌, ◌+◌, ◌≤◌, ℕ, List, [], ◌∷◌, ◌++◌, length, Option, Some, None}
use Rattle.std.specs.{Io.KnownBytes.Consumes, Io.KnownBytes.prepend_known, List.slice_split}
use Rattle.line_reader.specs.Words.{is_line_end}
use Rattle.byte_ports.specs.{SourceLines.Gave, SourceLines.Lines, declared.source_lines.LineEnded.LineEnded}
use Rattle.byte_ports.specs.declared.source_lines.LineEnded.TheVariants as how
use Rattle.thread_machine.specs.declared.choice.Choice.{Choice}
use Rattle.trace_compare.specs.declared.{line_names.LineNames.LineNames, naming.NextName.NextName}
use Rattle.trace_compare.specs.Naming.{Naming, Names, behind_choices, ended, naming_from}
use Rattle.trace_compare.specs.declared.line_names.LineNames.TheVariants as names
use Rattle.trace_compare.specs.declared.naming.NextName.TheVariants as next

-- nothing was read yet
abbrev pub none_read : Lines
none_read = record { line = []; held = []; reads = 0 }

-- what comes next, by what a line names and how it ended
abbrev pub next_by : LineNames → LineEnded → NextName
next_by names.Nothing _ = next.NotATrace
next_by names.State _ = next.State
next_by (names.Made choice) how.AtEnd = next.CutOff choice
next_by (names.Made choice) _ = next.Made choice

-- what the lines name that end so; the line has this number
abbrev pub last_naming : NextName → ℕ → Naming
last_naming (next.Made choice) n = behind_choices (choice ∷ []) (ended None)
last_naming next.State n = ended None
last_naming next.NotATrace n = ended (Some n)
last_naming (next.CutOff choice) n = behind_choices (choice ∷ []) (ended (Some (n + 1)))

-- these lines name these choices, whatever comes after them; the first line has this number
abbrev pub NamesFrom : ℕ → List ℕ → List Choice → ℕ → Type 0
NamesFrom n bytes choices next =
    (rest : List ℕ) → naming_from n (slice_split is_line_end (bytes ++ rest))
    ≡ behind_choices choices (naming_from next (slice_split is_line_end rest))

-- bytes were taken, and each read gave one at least
abbrev pub HasGone : List ℕ → (before after : Lines) → (left_before left_after : Option (List ℕ)) → Type 0
HasGone bytes before after left_before left_after =
    Consumes (prepend_known before.held left_before) (prepend_known after.held left_after) bytes × Gave before after (length bytes)

-- lines were taken that name these choices, a byte each at least, and the next line has this number
pub record HasTaken (n : ℕ) (choices : List Choice) (next : ℕ) (before after : Lines)
    (left_before left_after : Option (List ℕ)) : Type 0 where
  pub bytes : List ℕ
  pub gone : HasGone bytes before after left_before left_after
  pub many : next ≤ length bytes + n
  pub names : NamesFrom n bytes choices next

-- lines were taken up to the one that ends the choices, and name this
pub record HasEnded (n : ℕ) (naming : Naming) (before after : Lines)
    (left_before left_after : Option (List ℕ)) : Type 0 where
  pub bytes : List ℕ
  pub gone : Consumes (prepend_known before.held left_before) (prepend_known after.held left_after) bytes
  pub names : Names n bytes (prepend_known after.held left_after) naming
