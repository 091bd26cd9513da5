-- A schedule names threads from 0 to 63.
use Rattle.std.proofs.Common.{◌≡◌, ◌+◌, ◌≤◌, ℕ, true, List, [], ◌∷◌, length, replicate, All, Option, subst, arith}
use Rattle.std.proofs.lemmas.List.Elements.{All-append, All-head, All-nil, All-replicate, All-tail}
use Rattle.std.specs.List.{slice_split}
use Rattle.schedule_reader.specs.declared.{fault.ScheduleFault.ScheduleFault, run.Run.Run}
use Rattle.schedule_reader.specs.Schedule.{IsRun, Schedule, choices_of, finished_schedule, is_blank, schedule_in, schedule_with_piece}
use Rattle.trace_compare.proofs.OwnTrace.{IsNamed}

-- a run of such a thread
abbrev HasName : Run → Type 0
HasName run = run.choice.thread ≤ 63

-- a piece and what comes after it
named-with_piece : (at : ℕ) (piece : List ℕ) (rest : Schedule) → All HasName rest.runs
    → All HasName (schedule_with_piece at piece rest).runs
named-with_piece at piece rest others = grind arith

named-in : (at : ℕ) (pieces : List (List ℕ)) → All HasName (schedule_in true at pieces).runs
named-in at (piece ∷ next ∷ pieces) =
    let after = at + length piece + 1 in
    named-with_piece at piece (schedule_in true after (next ∷ pieces)) (named-in after (next ∷ pieces))
named-in at pieces = grind (arith, All-nil, named-with_piece)

named-choices : (runs : List Run) → All HasName runs → All IsNamed (choices_of runs)
named-choices [] there = All-nil IsNamed
named-choices (run ∷ runs) there =
    All-append IsNamed (replicate run.times run.choice) (choices_of runs)
    (All-replicate IsNamed run.times run.choice (All-head HasName run runs there))
    (named-choices runs (All-tail HasName run runs there))

-- a token spells a thread that a line may name
pub named-runs : (runs : List Run) → All IsRun runs → All IsNamed (choices_of runs)
named-runs runs are = grind (arith, named-choices)

pub named-threads : (bytes : List ℕ) (runs : List Run) (fault : Option ScheduleFault)
    → finished_schedule bytes ≡ record { runs = runs; fault = fault } → All IsNamed (choices_of runs)
named-threads bytes runs fault is =
    named-choices runs
    (subst (λ (schedule : Schedule). All HasName schedule.runs) is (named-in 0 (slice_split is_blank bytes)))
