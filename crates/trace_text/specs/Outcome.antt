-- What is true after a run under a schedule, for each result: what was read of the schedule, what was written, and how the run
-- ended. `run_to_end` promises this, and its callers pass it on. No contract can say that `Memory` comes only if memory is
-- missing.
--
-- For the schedule and for the output the arguments are, in this order: the bytes that are left or written before the call and
-- after it, and whether it has failed by then.
use Rattle.std.specs.Prelude.{◌≡◌, ◌≢◌, ◌⊎◌, ℕ, Bool, IsTrue, List, Option, None, Result, Ok, Err, false}
use Rattle.std.specs.Io.KnownBytes.{Appends, Consumes, IsAtEnd}
use Rattle.row_code.specs.declared.image.Image.{Image}
use Rattle.schedule_reader.specs.declared.fault.ScheduleFault.TheVariants as schedule
use Rattle.schedule_reader.specs.declared.run.Run.{Run}
use Rattle.schedule_reader.specs.Schedule.{Schedule, open_schedule, finished_schedule, choices_of}
use Rattle.thread_machine.specs.{World.World, declared.choice.Choice.Choice}
use Rattle.trace_text.specs.declared.{run.RunFault.RunFault, run_end.RunEnd.RunEnd}
use Rattle.trace_text.specs.RunText.{AreTraced, GivesOnAndOn, HasFault, HasNoEarlierFault}
use Rattle.trace_text.specs.{Start.Begins, Start.IsRefused, Start.is_want_of_memory, Trace.AppendsPartOf, Trace.lines_of}
use Rattle.trace_text.specs.declared.run.RunFault.TheVariants as fault

-- nothing was read, and nothing was written
abbrev pub IsUntouched : (schedule_before schedule_after output_before output_after : Option (List ℕ)) → Type 0
IsUntouched schedule_before schedule_after output_before output_after =
    (schedule_after ≡ schedule_before) × (output_after ≡ output_before)

-- it came to its end: the schedule was read to its own end, and the trace of its choices was written, which ends so
abbrev pub EndsFrom : World → RunEnd → (schedule_before schedule_after output_before output_after : Option (List ℕ)) → Type 0
EndsFrom first end schedule_before schedule_after output_before output_after =
    (bytes : List ℕ) × ((runs : List Run) × (Consumes schedule_before schedule_after bytes × IsAtEnd schedule_after
    × (finished_schedule bytes ≡ record { runs = runs; fault = None })
    × AreTraced first (choices_of runs) end output_before output_after))

-- it stopped for this fault after the program was loaded. The schedule has a fault, and was read at most to the end of the
-- piece with it: the lines of the choices before it were written. Or it was out of memory, and the schedule hasn't failed: a
-- part of the lines of the choices that were read was written, and those of the last token, too, if the schedule was read to
-- its end. Or the schedule can't be read: the lines of the choices that were read were written. Or the output can't be written.
abbrev pub StopsFrom : World → RunFault → (schedule_before schedule_after : Option (List ℕ)) (schedule_failed : Bool)
    (output_before output_after : Option (List ℕ)) (output_failed : Bool) → Type 0
StopsFrom first (fault.Schedule f) schedule_before schedule_after schedule_failed output_before output_after output_failed =
    (schedule_failed ≡ false) × ((bytes : List ℕ) × ((runs : List Run) × ((f ≢ schedule.Memory)
    × Consumes schedule_before schedule_after bytes × HasNoEarlierFault bytes × HasFault bytes schedule_after runs f
    × Appends output_before output_after (lines_of first (choices_of runs)))))
StopsFrom first fault.Memory schedule_before schedule_after schedule_failed output_before output_after output_failed =
    (schedule_failed ≡ false) × ((bytes : List ℕ) × ((schedule : Schedule) × (Consumes schedule_before schedule_after bytes
    × ((schedule ≡ open_schedule bytes) ⊎ (IsAtEnd schedule_after × (schedule ≡ finished_schedule bytes)))
    × AppendsPartOf output_before output_after (lines_of first (choices_of schedule.runs)))))
StopsFrom first fault.Read schedule_before schedule_after schedule_failed output_before output_after output_failed =
    (IsTrue schedule_failed ⊎ GivesOnAndOn schedule_before schedule_after)
    × ((bytes : List ℕ) × (Consumes schedule_before schedule_after bytes
    × Appends output_before output_after (lines_of first (choices_of (open_schedule bytes).runs))))
StopsFrom first fault.Write schedule_before schedule_after schedule_failed output_before output_after output_failed =
    IsTrue output_failed
StopsFrom first (fault.Load f) schedule_before schedule_after schedule_failed output_before output_after output_failed = ⊥

-- an image's run stopped for this fault: the image can't be loaded, for a reason other than memory; or there was no memory for
-- a machine; or the run stopped for it
abbrev pub Stops : Image → RunFault → (schedule_before schedule_after : Option (List ℕ)) (schedule_failed : Bool)
    (output_before output_after : Option (List ℕ)) (output_failed : Bool) → Type 0
Stops image (fault.Load f) schedule_before schedule_after schedule_failed output_before output_after output_failed =
    IsRefused f image × (is_want_of_memory f ≡ false)
    × IsUntouched schedule_before schedule_after output_before output_after
Stops image fault.Memory schedule_before schedule_after schedule_failed output_before output_after output_failed =
    IsUntouched schedule_before schedule_after output_before output_after ⊎ ((world : World) × (Begins image world
    × StopsFrom world fault.Memory schedule_before schedule_after schedule_failed output_before output_after output_failed))
Stops image f schedule_before schedule_after schedule_failed output_before output_after output_failed =
    (world : World) × (Begins image world
    × StopsFrom world f schedule_before schedule_after schedule_failed output_before output_after output_failed)

-- an image's run led to this: to an end only if the schedule hasn't failed
abbrev pub ComesTo : Image → Result RunEnd RunFault → (schedule_before schedule_after : Option (List ℕ)) (schedule_failed : Bool)
    (output_before output_after : Option (List ℕ)) (output_failed : Bool) → Type 0
ComesTo image (Ok end) schedule_before schedule_after schedule_failed output_before output_after output_failed =
    (world : World) × (Begins image world × (schedule_failed ≡ false) × EndsFrom world end schedule_before schedule_after output_before output_after)
ComesTo image (Err f) schedule_before schedule_after schedule_failed output_before output_after output_failed =
    Stops image f schedule_before schedule_after schedule_failed output_before output_after output_failed

-- an image's run of known choices led to this: to an end, and their trace was written; or the image can't be loaded, for a reason
-- other than memory; or it was out of memory, and a part of the lines of the choices was written, or nothing; or the output can't
-- be written
abbrev pub ComesOfChoices : Image → List Choice → Result RunEnd RunFault → (output_before output_after : Option (List ℕ)) (output_failed : Bool) → Type 0
ComesOfChoices image choices (Ok end) output_before output_after output_failed =
    (world : World) × (Begins image world × AreTraced world choices end output_before output_after)
ComesOfChoices image choices (Err (fault.Load f)) output_before output_after output_failed =
    IsRefused f image × (is_want_of_memory f ≡ false) × (output_after ≡ output_before)
ComesOfChoices image choices (Err fault.Memory) output_before output_after output_failed =
    (output_after ≡ output_before) ⊎ ((world : World) × (Begins image world × AppendsPartOf output_before output_after (lines_of world choices)))
ComesOfChoices image choices (Err fault.Write) output_before output_after output_failed = IsTrue output_failed
ComesOfChoices image choices (Err f) output_before output_after output_failed = ⊥
