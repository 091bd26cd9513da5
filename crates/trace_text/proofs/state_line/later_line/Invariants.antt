use Rattle.std.proofs.Common.{◌≡◌, length}
use Rattle.trace_text.specs.ExpectedLine.{later_line}
use Rattle.trace_text.proofs.state_line.later_line.Given as goal

-- what is sought doesn't stand before the rest
abbrev pub invariant-loop-rest : goal.invariant-loop-rest
invariant-loop-rest l = later_line l.subject l.text ≡ later_line l.subject l.rest

abbrev pub decreases-loop-rest : goal.decreases-loop-rest
decreases-loop-rest l = length l.rest
