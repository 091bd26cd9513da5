-- What a run returns and writes if its schedule comes as a stream.
use Rattle.std.specs.Prelude.{◌≡◌, ◌⊎◌, ◌≤◌, ◌+◌, ℕ, List, [], ◌∷◌, ◌++◌, length, Option, Some, None, option_map}
use Rattle.std.specs.Io.KnownBytes.{Appends, Consumes, IsAtEnd}
use Rattle.schedule_reader.specs.declared.{fault.ScheduleFault.ScheduleFault, run.Run.Run}
use Rattle.schedule_reader.specs.Schedule.{Schedule, finished_schedule, open_schedule}
use Rattle.thread_machine.specs.{declared.choice.Choice.Choice, World.World, Standing.standing_of, Execution.execution}
use Rattle.trace_text.specs.declared.{play.Refused.Refused, run_end.Refusal.Refusal, run_end.RunEnd.RunEnd}
use Rattle.trace_text.specs.{State.state_text, Trace.lines_of, Trace.refused_of, Trace.trace_of}

-- what is reported of a choice that is refused in this world, with its number and its line
abbrev pub refusal_in : World → Refused → Refusal
refusal_in world refused =
    record {
      number = world.choices + 1;
      line = lines_of world (refused.choice ∷ []);
      choice = refused.choice;
      why = refused.why;
    }

-- choices were executed to this end: the word for the program's state, the text of its state, and the choice that was refused,
-- if one was
abbrev pub IsEndOf : World → List Choice → RunEnd → Type 0
IsEndOf first choices end =
    let last : World = (execution first choices).world in
    (end.standing ≡ standing_of last) × (end.state.items ≡ state_text last)
    × (end.refused ≡ option_map (refusal_in last) (refused_of first choices))

-- the trace of these choices was written, and this is its end
abbrev pub AreTraced : World → List Choice → RunEnd → Option (List ℕ) → Option (List ℕ) → Type 0
AreTraced first choices end old new =
    IsEndOf first choices end × Appends old new (trace_of first choices)

-- runs, and the fault after them
abbrev pub faulty_after : List Run → ScheduleFault → Schedule
faulty_after runs fault = record { runs = runs; fault = Some fault }

-- a schedule that begins with these bytes has this fault, and these runs before it: it ends with them, or whatever comes after
-- them makes no difference
abbrev pub HasFault : List ℕ → Option (List ℕ) → List Run → ScheduleFault → Type 0
HasFault bytes left runs fault =
    (IsAtEnd left × (finished_schedule bytes ≡ faulty_after runs fault))
    ⊎ ((rest : List ℕ) → finished_schedule (bytes ++ rest) ≡ faulty_after runs fault)

-- before the last piece of a schedule that was read, of at most 4,096 bytes, no fault was there
abbrev pub HasNoEarlierFault : List ℕ → Type 0
HasNoEarlierFault bytes =
    (front : List ℕ) × ((piece : List ℕ)
    × ((bytes ≡ front ++ piece) × (length piece ≤ 4096) × ((open_schedule front).fault ≡ None)))

-- a source gave 1,000,000,000 bytes at least: with fewer the bound of reads is never met
abbrev pub GivesOnAndOn : Option (List ℕ) → Option (List ℕ) → Type 0
GivesOnAndOn before after = (bytes : List ℕ) × (Consumes before after bytes × (1000000000 ≤ length bytes))
