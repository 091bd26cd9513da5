use Rattle.std.proofs.Common.{◌≡◌, drop}
use Rattle.loader.specs.Fault.{thread_fault, earliest_in}
use Rattle.loader.proofs.row_checks.thread_fault.Given as goal

abbrev pub invariant-loop-n : goal.invariant-loop-n
invariant-loop-n l =
    earliest_in (thread_fault l.rows) l.n (drop l.n l.threads) ≡ earliest_in (thread_fault l.rows) 0 l.threads
