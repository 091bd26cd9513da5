use Rattle.std.proofs.Common.{◌≡◌, ◌+◌, List, length}
use Rattle.thread_machine.specs.declared.choice.Choice.{Choice}
use Rattle.trace_compare.specs.NamedLines.{HasTaken, none_read}
use Rattle.debugger.specs.Go.{Stops}
use Rattle.workbench.proofs.debug.play_trace.Given as goal

-- the lines so far named choices, a line each, which were played up to where they stop
abbrev pub invariant-loop-before : goal.invariant-loop-before
invariant-loop-before g l =
    (choices : List Choice)
    × (HasTaken 1 choices (l.before + 1) none_read l.lines (g.T.Source.left l.fn.trace) (g.T.Source.left l.trace)
    × Stops l.fn.debugger choices l.stop l.debugger × (length choices ≡ l.before))
