-- What `live` writes, for each result.
use Rattle.std.specs.Prelude.{◌≡◌, ◌⊎◌, ℕ, All, Bool, IsTrue, List, Option, Some, None, Result, Ok, Err}
use Rattle.row_code.specs.declared.image.Image.{Image}
use Rattle.loader.specs.Fault.{first_fault}
use Rattle.schedule_reader.specs.{declared.run.Run.Run, Schedule.IsRun, Schedule.choices_of}
use Rattle.thread_machine.specs.{declared.choice.Choice.Choice, World.World, World.IsFirstOf}
use Rattle.thread_runner.specs.{declared.ending.Ending.Ending, declared.fault.LiveFault.LiveFault, Endings.ending_of}
use Rattle.thread_runner.specs.Replay.{IsReplay}
use Rattle.thread_runner.specs.declared.fault.LiveFault.TheVariants as live
use Rattle.trace_text.specs.{declared.run_end.RunEnd.RunEnd, RunText.AreTraced, Start.Begins, Start.IsRefused}
use Rattle.trace_text.specs.Trace.{AppendsPartOf, lines_of}
use Rattle.workbench.specs.declared.fault.Fault.{Fault}
use Rattle.workbench.specs.declared.fault.Fault.TheVariants as fault

-- the image has no fault, and the choices are the record of a run from its first world that came to an end, with at most so
-- many steps: each of them was accepted, and none was idle
abbrev pub IsRecorded : Image → ℕ → List Choice → Type 0
IsRecorded image limit choices =
    (first : World) × ((world : World) × ((ending : Ending)
    × ((first_fault image ≡ None) × IsFirstOf image limit first × IsReplay (record { first = first; choices = choices }) world
    × (ending_of world ≡ Some ending))))

-- a run of the program was recorded, the trace of its choices was written, and it ends so
abbrev pub IsLived : ℕ → Image → RunEnd → (output_before output_after : Option (List ℕ)) → Type 0
IsLived limit image end output_before output_after =
    (runs : List Run) × ((world : World)
    × (All IsRun runs × IsRecorded image limit (choices_of runs) × Begins image world
    × AreTraced world (choices_of runs) end output_before output_after))

-- nothing was written; or the run was recorded, and a part of the lines of its choices was written
abbrev pub IsLivedAtMost : ℕ → Image → (output_before output_after : Option (List ℕ)) → Type 0
IsLivedAtMost limit image output_before output_after =
    (output_after ≡ output_before)
    ⊎ ((choices : List Choice) × ((world : World) × (IsRecorded image limit choices × Begins image world
    × AppendsPartOf output_before output_after (lines_of world choices))))

-- why no whole trace was written: the output failed; or it was out of memory, and a part was written; or no thread could be
-- started, or the program can't be loaded, and nothing was written
abbrev pub StopsLiving : ℕ → Fault → Image → (output_before output_after : Option (List ℕ)) (output_failed : Bool) → Type 0
StopsLiving limit fault.Write image output_before output_after output_failed = IsTrue output_failed
StopsLiving limit fault.Memory image output_before output_after output_failed = IsLivedAtMost limit image output_before output_after
StopsLiving limit fault.Spawn image output_before output_after output_failed = output_after ≡ output_before
StopsLiving limit (fault.Load f) image output_before output_after output_failed = IsRefused f image × (output_after ≡ output_before)
StopsLiving limit f image output_before output_after output_failed = ⊥

-- a live run's trace was written, or why not
abbrev pub Lives : ℕ → Image → Result RunEnd Fault → (output_before output_after : Option (List ℕ)) (output_failed : Bool) → Type 0
Lives limit image (Ok end) output_before output_after output_failed = IsLived limit image end output_before output_after
Lives limit image (Err f) output_before output_after output_failed = StopsLiving limit f image output_before output_after output_failed

-- why a live run was broken off, as a command's fault
abbrev pub fault_of_live : LiveFault → Fault
fault_of_live (live.Memory schedule) = fault.Memory
fault_of_live live.Spawn = fault.Spawn
