use Rattle.std.proofs.Common.{◌≡◌, ◌-◌, drop, length}
use Rattle.schedule_reader.specs.Schedule.{choices_of}
use Rattle.vuthgal_c.proofs.going.lacking.Given as goal

-- what the runs so far had is taken away
abbrev pub invariant-loop-run : goal.invariant-loop-run
invariant-loop-run l = l.left - length (choices_of (drop l.run-index l.runs)) ≡ l.number - length (choices_of l.runs)
