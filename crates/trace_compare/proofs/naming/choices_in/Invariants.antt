use Rattle.std.proofs.Common.{◌≡◌, ◌+◌, false, All}
use Rattle.schedule_reader.specs.{Joined.AreJoined, Schedule.IsRun, Schedule.choices_of}
use Rattle.trace_compare.specs.NamedLines.{HasTaken, none_read}
use Rattle.trace_compare.proofs.naming.choices_in.Given as goal

-- the lines so far named the choices of the runs
abbrev pub invariant-loop-before : goal.invariant-loop-before
invariant-loop-before g l = record {
  taken : HasTaken 1 (choices_of l.runs.items) (l.before + 1) none_read l.lines
      (g.S.Source.left l.fn.trace) (g.S.Source.left l.trace);
  runs : All IsRun l.runs.items;
  joined : AreJoined l.runs.items;
  sound : g.S.Source.has_failed l.fn.trace ≡ false → g.S.Source.has_failed l.trace ≡ false;
}
