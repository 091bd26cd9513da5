use Rattle.std.proofs.Common.{◌≡◌, take, All}
use Rattle.schedule_reader.specs.{Joined.AreJoined, Schedule.IsRun, Schedule.choices_of}
use Rattle.schedule_reader.proofs.run.joined.Given as goal

abbrev pub invariant-loop-run : goal.invariant-loop-run
invariant-loop-run l = record {
  choices : choices_of l.all.items ≡ choices_of (take l.run-index l.runs);
  runs : All IsRun l.all.items;
  joined : AreJoined l.all.items;
}
