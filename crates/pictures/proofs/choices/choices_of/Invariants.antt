use Rattle.std.proofs.Common.{◌≡◌, ◌++◌, drop}
use Rattle.schedule_reader.specs.Schedule.{choices_of}
use Rattle.pictures.proofs.choices.choices_of.Given as goal

abbrev pub invariant-loop-run : goal.invariant-loop-run
invariant-loop-run l = l.choices.items ++ choices_of (drop l.run-index l.runs) ≡ choices_of l.runs
