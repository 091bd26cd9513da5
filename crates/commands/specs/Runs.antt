-- How several live runs of a program's file are reported.
use Rattle.std.specs.Prelude.{◌≡◌, ℕ, All, Bool, IsTrue, List, length, Option, None, Result, Ok, Err}
use Rattle.std.specs.Io.KnownBytes.{Appends}
use Rattle.row_code.specs.declared.image.Image.{Image}
use Rattle.loader.specs.Fault.{first_fault}
use Rattle.thread_machine.specs.World.{World, IsFirstOf}
use Rattle.trace_text.specs.Start.{IsRefused}
use Rattle.workbench.specs.declared.{fault.Fault.Fault, done.Done.Done}
use Rattle.workbench.specs.declared.fault.Fault.TheVariants as fault
use Rattle.commands.specs.declared.{many_runs.Asked.Asked, end_state.EndState.EndState, outcomes.Outcome.Outcome}
use Rattle.commands.specs.Outcomes.{AreOutcomes, Ended, IsEndedFrom, IsMostFrequentFirst, report, done_by}

-- so many runs from this world had these outcomes
abbrev pub AreOutcomesFrom : World → Asked → List (EndState × Outcome) → Type 0
AreOutcomesFrom first asked outcomes =
    (runs : List Ended) × ((length runs ≡ asked.runs) × All (IsEndedFrom first) runs × AreOutcomes runs outcomes)

-- the image has no fault, its program was played so often from its first world, and what it came to was written
abbrev pub HasReported : Image → Asked → Done → (output_before output_after : Option (List ℕ)) → Type 0
HasReported image asked done output_before output_after =
    (first : World) × ((outcomes : List (EndState × Outcome))
    × ((first_fault image ≡ None) × IsFirstOf image asked.limit first × AreOutcomesFrom first asked outcomes
    × IsMostFrequentFirst outcomes × (done ≡ done_by asked.expected.now outcomes)
    × Appends output_before output_after (report None outcomes)))

-- why no report was written: the output failed; or there was no memory, or no thread could be started, or the program isn't loaded,
-- and nothing was
abbrev pub StopsReporting : Fault → Image → (output_before output_after : Option (List ℕ)) (output_failed : Bool) → Type 0
StopsReporting fault.Write image output_before output_after output_failed = IsTrue output_failed
StopsReporting fault.Memory image output_before output_after output_failed = output_after ≡ output_before
StopsReporting fault.Spawn image output_before output_after output_failed = output_after ≡ output_before
StopsReporting (fault.Load f) image output_before output_after output_failed = IsRefused f image × (output_after ≡ output_before)
StopsReporting f image output_before output_after output_failed = ⊥

-- this was done with an image's program
abbrev pub Reports : Asked → Image → Result Done Fault → (output_before output_after : Option (List ℕ)) (output_failed : Bool) → Type 0
Reports asked image (Ok done) output_before output_after output_failed = HasReported image asked done output_before output_after
Reports asked image (Err f) output_before output_after output_failed = StopsReporting f image output_before output_after output_failed
