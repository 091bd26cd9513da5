use Rattle.std.proofs.Common.{◌≡◌, length}
use Rattle.trace_text.specs.ExpectedLine.{has_died}
use Rattle.trace_text.proofs.state_line.has_died.Given as goal

-- what is sought doesn't stand before the rest
abbrev pub invariant-loop-rest : goal.invariant-loop-rest
invariant-loop-rest l = has_died l.state ≡ has_died l.rest

abbrev pub decreases-loop-rest : goal.decreases-loop-rest
decreases-loop-rest l = length l.rest
