-- A schedule that is written while its choices are read.
use Rattle.std.specs.Prelude.{◌≡◌, Bool, true, false, ℕ, All, List, [], ◌∷◌, ◌++◌, Option, Some, None}
use Rattle.std.specs.Io.KnownBytes.{Appends, Consumes}
use Rattle.schedule_reader.specs.{declared.run.Run.Run, Joined.AreJoined, Schedule.IsRun, Schedule.choices_of}
use Rattle.schedule_reader.specs.Text.{schedule_text, token_of}
use Rattle.thread_machine.specs.declared.choice.Choice.{Choice}
use Rattle.trace_compare.specs.Naming.{naming_of}

-- the line of runs after a whole trace; after one that isn't, there is a line only if there are runs
abbrev pub line_by : Bool → List Run → List ℕ
line_by is_trace (run ∷ runs) = schedule_text (run ∷ runs) ++ 10 ∷ []
line_by true [] = 10 ∷ []
line_by false [] = []

-- the choices were written as runs that tokens can spell, joined if they can be
abbrev pub HasWrittenUpTo : Bool → List Choice → Option (List ℕ) → Option (List ℕ) → Type 0
HasWrittenUpTo is_trace choices old new =
    (runs : List Run) × ((choices ≡ choices_of runs) × All IsRun runs × AreJoined runs × Appends old new (line_by is_trace runs))

-- tokens with a space after each
abbrev pub closed_text : List Run → List ℕ
closed_text [] = []
closed_text (run ∷ runs) = token_of run ++ (32 ∷ closed_text runs)

-- the choices so far: those of the runs that were written, and of the one that may get more
abbrev pub HasWritten : Option (List ℕ) → Option Run → Option (List ℕ) → List Choice → Type 0
HasWritten old None new choices = (choices ≡ []) × (new ≡ old)
HasWritten old (Some run) new choices =
    (runs : List Run)
    × ((choices ≡ choices_of (runs ++ run ∷ [])) × All IsRun runs × IsRun run × AreJoined (runs ++ run ∷ [])
    × Appends old new (closed_text runs))

-- tokens for the first of the choices that the bytes name which were read
abbrev pub HasWrittenPart : (trace_before trace_after output_before output_after : Option (List ℕ)) → Type 0
HasWrittenPart trace_before trace_after output_before output_after =
    (bytes : List ℕ) × ((runs : List Run) × ((rest : List Choice)
    × (Consumes trace_before trace_after bytes × ((naming_of bytes).choices ≡ choices_of runs ++ rest)
    × Appends output_before output_after (closed_text runs))))
