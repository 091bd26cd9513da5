use Rattle.std.proofs.Common.{◌≡◌, ◌+◌, drop, length}
use Rattle.schedule_reader.specs.Schedule.{choices_of}
use Rattle.pictures.proofs.choices.have_more.Given as goal

abbrev pub invariant-loop-run : goal.invariant-loop-run
invariant-loop-run l = l.most + length (choices_of (drop l.run-index l.runs)) ≡ l.left + length (choices_of l.runs)
