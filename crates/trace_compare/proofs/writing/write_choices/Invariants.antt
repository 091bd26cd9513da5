use Rattle.std.proofs.Common.{◌≤◌, ◌+◌, List, MatchOption}
use Rattle.thread_machine.specs.declared.choice.Choice.{Choice}
use Rattle.trace_compare.specs.{NamedLines.HasTaken, NamedLines.none_read, Writing.HasWritten}
use Rattle.trace_compare.proofs.writing.write_choices.Given as goal

-- the lines so far named choices, which are written but for the run that may get more
abbrev pub invariant-loop-before : goal.invariant-loop-before
invariant-loop-before g l = record {
  so : (choices : List Choice)
      × (HasTaken 1 choices (l.before + 1) none_read l.lines (g.S.Source.left l.fn.trace) (g.S.Source.left l.trace)
      × HasWritten (g.K.Sink.written l.fn.output) l.last (g.K.Sink.written l.output) choices);
  few : MatchOption l.last Unit (λ run. run.times ≤ 1000000000);
}
