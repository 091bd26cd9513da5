use Rattle.std.proofs.Common.{◌≡◌, drop}
use Rattle.commands.specs.Outcomes.{are_as_expected}
use Rattle.commands.proofs.report.are_as_expected.Given as goal

-- it is decided by the outcomes from the next on
abbrev pub invariant-loop-place : goal.invariant-loop-place
invariant-loop-place l = are_as_expected l.expected (drop l.place l.outcomes.entries) ≡ are_as_expected l.fn.expected l.fn.outcomes.entries
