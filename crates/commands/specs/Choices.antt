-- What `choices` reads and writes.
use Rattle.std.specs.Prelude.{◌≡◌, ℕ, is_none, All, List, [], ◌∷◌, ◌++◌, Option, Some, None, codes}
use Rattle.std.specs.Io.KnownBytes.{Appends}
use Rattle.schedule_reader.specs.{declared.run.Run.Run, Joined.AreJoined, Schedule.IsRun, Schedule.choices_of}
use Rattle.schedule_reader.specs.Text.{schedule_text}
use Rattle.trace_compare.specs.{Naming.HasRead, Naming.Naming, Writing.line_by}
use Rattle.workbench.specs.Fault.{counted_line}

-- a line with a token for each run
abbrev pub schedule_line : List Run → List ℕ
schedule_line runs = schedule_text runs ++ 10 ∷ []

-- the line that says where the trace isn't one
abbrev pub written_line : Option ℕ → List ℕ
written_line None = []
written_line (Some line) = counted_line (codes "not a trace ") line

-- the line of choices, joined if they repeat, and after it where the trace isn't one
abbrev pub IsWrittenLine : Naming → List ℕ → Type 0
IsWrittenLine naming text =
    (runs : List Run)
    × ((naming.choices ≡ choices_of runs) × All IsRun runs × AreJoined runs
    × (text ≡ line_by (is_none naming.no_line) runs ++ written_line naming.no_line))

-- the trace was read as far as necessary; its choices were written, and where it isn't a trace
abbrev pub HasWrittenChoices : Naming → (trace_before trace_after output_before output_after : Option (List ℕ)) → Type 0
HasWrittenChoices naming trace_before trace_after output_before output_after =
    HasRead trace_before trace_after naming
    × ((text : List ℕ) × (IsWrittenLine naming text × Appends output_before output_after text))
