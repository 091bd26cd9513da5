use Rattle.std.proofs.Common.{◌≡◌, length}
use Rattle.trace_text.specs.ExpectedLine.{has_words}
use Rattle.trace_text.proofs.state_line.has_words.Given as goal

-- the words don't stand before the rest
abbrev pub invariant-loop-rest : goal.invariant-loop-rest
invariant-loop-rest l = has_words l.words l.line ≡ has_words l.words l.rest

abbrev pub decreases-loop-rest : goal.decreases-loop-rest
decreases-loop-rest l = length l.rest
