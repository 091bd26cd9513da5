use Rattle.std.proofs.Common.{◌≡◌, length}
use Rattle.trace_text.specs.ExpectedLine.{has_whole}
use Rattle.trace_text.proofs.state_line.has_whole.Given as goal

-- the words don't stand so before the rest
abbrev pub invariant-loop-rest : goal.invariant-loop-rest
invariant-loop-rest l = has_whole l.words l.line ≡ has_whole l.words l.rest

abbrev pub decreases-loop-rest : goal.decreases-loop-rest
decreases-loop-rest l = length l.rest
