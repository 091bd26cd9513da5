-- What a call of a reader appends to a list of runs, and what it returns.
use Rattle.std.specs.Prelude.{◌≡◌, ◌⊎◌, List, [], ◌++◌, Option, Some, None, Result, Ok, Err}
use Rattle.schedule_reader.specs.{declared.run.Run.Run, declared.fault.ScheduleFault.ScheduleFault, Schedule.Schedule}
use Rattle.schedule_reader.specs.declared.fault.ScheduleFault.TheVariants as fault

-- a schedule's fault, or that it has none
abbrev pub answer_by : Option ScheduleFault → Result (Unit {0}) ScheduleFault
answer_by None = Ok tt
answer_by (Some fault) = Err fault

abbrev pub answer_of : Schedule → Result (Unit {0}) ScheduleFault
answer_of schedule = answer_by schedule.fault

-- a list got exactly the runs that the longer stream's schedule has more than the shorter one's; if it was out of memory, some
-- are missing at the end
pub record Adds (result : Result (Unit {0}) ScheduleFault) (shorter longer : Schedule)
    (before after : List Run) : Type 0 where
  pub added : List Run
  pub missing : List Run
  pub list : after ≡ before ++ added
  pub schedule : longer.runs ≡ shorter.runs ++ (added ++ missing)
  pub all : (result ≡ Err fault.Memory) ⊎ (missing ≡ [])
