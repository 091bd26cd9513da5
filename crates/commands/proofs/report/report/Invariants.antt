use Rattle.std.proofs.Common.{◌≡◌, ◌++◌, drop}
use Rattle.commands.specs.{Named.names_seen, Outcomes.report}
use Rattle.commands.proofs.report.report.Given as goal

-- the text goes on with the lines from the next outcome on
abbrev pub invariant-loop-place : goal.invariant-loop-place
invariant-loop-place l = l.text.items ++ report (names_seen l.fn.names) (drop l.place l.outcomes.entries) ≡ report (names_seen l.fn.names) l.fn.outcomes.entries
