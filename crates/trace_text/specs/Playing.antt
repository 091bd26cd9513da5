-- How one part of a schedule after another is played. Only proofs use this, from call to call: no promise depends on it.
use Rattle.std.specs.Prelude.{◌≡◌, ◌≢◌, ◌+◌, ℕ, Bool, IsTrue, List, ◌++◌, Option, Some, None, Result, Err, if◌then◌else◌, length, nat_lt}
use Rattle.std.specs.Io.KnownBytes.{Appends, Consumes, IsAtEnd}
use Rattle.schedule_reader.specs.declared.{fault.ScheduleFault.ScheduleFault, run.Run.Run}
use Rattle.schedule_reader.specs.Places.{Progress, HasRead}
use Rattle.schedule_reader.specs.Schedule.{open_schedule, finished_schedule, choices_of}
use Rattle.schedule_reader.specs.declared.fault.ScheduleFault.TheVariants as schedule
use Rattle.thread_machine.specs.{declared.choice.Choice.Choice, World.World, Execution.execution}
use Rattle.machine_scene.specs.Scene.{thread_at}
use Rattle.trace_text.specs.declared.{play.PlayFault.PlayFault, run.RunFault.RunFault, play.Refused.Refused}
use Rattle.trace_text.specs.{declared.run_end.Refusal.Refusal, Lines.refusal_text}
use Rattle.trace_text.specs.Trace.{AppendsPartOf, lines_of, refused_of}
use Rattle.trace_text.specs.declared.play.PlayFault.TheVariants as play
use Rattle.trace_text.specs.declared.run.RunFault.TheVariants as fault

-- choices were played: their lines were written, the world is the one that their execution leaves, and this is the one that was
-- refused, if one was
pub record PlaysTo (before after : World) (choices : List Choice) (refused : Option Refused) (old new : Option (List ℕ)) : Type 0 where
  pub lines : Appends old new (lines_of before choices)
  pub world : after ≡ (execution before choices).world
  pub answer : refused ≡ refused_of before choices

-- the row that a choice's thread is at, if there is such a thread
abbrev pub row_of : World → Choice → Option ℕ
row_of world choice =
    if nat_lt choice.thread (length world.scene.threads) then Some (thread_at world.scene choice.thread).pc else None

-- what is reported of a choice if it is refused in this world
abbrev pub refusal_reported : World → Refused → Refusal
refusal_reported world refused =
    record {
      number = world.choices + 1;
      line = refusal_text (world.choices + 1) refused.choice (row_of world refused.choice);
      choice = refused.choice;
      why = refused.why;
    }

-- whatever was played before, with these choices it is all played
abbrev pub PlaysOn : World → World → Option Refused → Option Refused → List Choice → Option (List ℕ) → Option (List ℕ) → Type 0
PlaysOn before after was all choices known new =
    (first : World) (earlier : List Choice) (old : Option (List ℕ)) → PlaysTo first before earlier was old known
    → PlaysTo first after (earlier ++ choices) all old new

-- their lines were written
abbrev pub WritesOn : World → Option Refused → List Choice → Option (List ℕ) → Option (List ℕ) → Type 0
WritesOn before was choices known new =
    (first : World) (earlier : List Choice) (old : Option (List ℕ)) → PlaysTo first before earlier was old known
    → Appends old new (lines_of first (earlier ++ choices))

-- a part of all lines was written
abbrev pub WritesPartOn : World → Option Refused → List Choice → Option (List ℕ) → Option (List ℕ) → Type 0
WritesPartOn before was choices known new =
    (first : World) (earlier : List Choice) (old : Option (List ℕ)) → PlaysTo first before earlier was old known
    → AppendsPartOf old new (lines_of first (earlier ++ choices))

-- a reader is after these bytes of a schedule, which have no fault, and the choices of their whole tokens are played
pub record IsUpTo (first now : World) (bytes : List ℕ) (reader : Progress) (refused : Option Refused) (old new : Option (List ℕ)) : Type 0 where
  pub reads : HasRead reader bytes
  pub free : (open_schedule bytes).fault ≡ None
  pub plays : PlaysTo first now (choices_of (open_schedule bytes).runs) refused old new

-- a schedule was read to its end, and its choices were played
abbrev pub HasPlayedAll : World → World → Option Refused → Option (List ℕ) → Option (List ℕ) → Option (List ℕ) → Option (List ℕ) → Type 0
HasPlayedAll first last all schedule_before schedule_after old new =
    (bytes : List ℕ) × ((runs : List Run)
    × (Consumes schedule_before schedule_after bytes × IsAtEnd schedule_after
    × (finished_schedule bytes ≡ record { runs = runs; fault = None }) × PlaysTo first last (choices_of runs) all old new))

-- the fault of a run whose reader returned this
abbrev pub IsFaultOfReader : RunFault → Result (Unit {0}) ScheduleFault → Type 0
IsFaultOfReader (fault.Schedule f) told = (told ≡ Err f) × (f ≢ schedule.Memory)
IsFaultOfReader fault.Memory told = told ≡ Err schedule.Memory
IsFaultOfReader _ told = ⊥

-- the fault of a run whose choices can't be played further
abbrev pub played_fault : PlayFault → RunFault
played_fault play.Memory = fault.Memory
played_fault play.Write = fault.Write

-- a run stopped for this fault at these choices, or after them because its reader returned a fault
abbrev pub StopsAt : RunFault → Result (Unit {0}) ScheduleFault → World → Option Refused → List Choice → Option (List ℕ) → Option (List ℕ) → Bool → Type 0
StopsAt (fault.Schedule f) told before was choices known new failed =
    (told ≡ Err f) × (f ≢ schedule.Memory) × WritesOn before was choices known new
StopsAt fault.Memory told before was choices known new failed = WritesPartOn before was choices known new
StopsAt fault.Write told before was choices known new failed = IsTrue failed
StopsAt _ told before was choices known new failed = ⊥
