use Rattle.std.proofs.Common.{◌≡◌, drop}
use Rattle.loader.specs.Fault.{row_fault, earliest_in}
use Rattle.loader.proofs.row_checks.row_fault.Given as goal

abbrev pub invariant-loop-n : goal.invariant-loop-n
invariant-loop-n l =
    earliest_in (row_fault l.counts) l.n (drop l.n l.rows) ≡ earliest_in (row_fault l.counts) 0 l.rows
