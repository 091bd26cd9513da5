use Rattle.std.proofs.Common.{◌≡◌, ◌++◌, All, replicate}
use Rattle.schedule_reader.specs.{Joined.AreJoined, Schedule.IsRun, Schedule.choices_of}
use Rattle.schedule_reader.proofs.run.push_run.Given as goal

abbrev pub invariant-loop-done : goal.invariant-loop-done
invariant-loop-done l = record {
  choices : choices_of l.runs.items ≡ choices_of l.fn.runs.items ++ replicate l._done l.run.choice;
  runs : All IsRun l.runs.items;
  joined : AreJoined l.runs.items;
}
