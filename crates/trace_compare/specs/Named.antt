-- What `choices_in` finds in a trace.
use Rattle.std.specs.Prelude.{ℕ, All, List, Result, Ok, Err}
use Rattle.schedule_reader.specs.{Schedule.IsRun, Schedule.choices_of, Joined.AreJoined}
use Rattle.thread_machine.specs.declared.choice.Choice.{Choice}
use Rattle.trace_compare.specs.declared.naming.Named.{Named}
use Rattle.trace_compare.specs.declared.naming.Named.TheVariants as found

-- its choices, or the number of the line
abbrev pub named_by : Named → Result (List Choice) ℕ
named_by (found.Choices runs) = Ok (choices_of runs.items)
named_by (found.NotATrace line) = Err line

-- runs that tokens can spell, joined if they can be
abbrev pub AreRuns : Named → Type 0
AreRuns (found.Choices runs) = All IsRun runs.items × AreJoined runs.items
AreRuns (found.NotATrace line) = Unit {0}
