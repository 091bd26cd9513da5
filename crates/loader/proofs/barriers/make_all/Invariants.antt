use Rattle.std.proofs.Common.{◌≡◌, drop, take, map}
use Rattle.loader.specs.{Declarations.new_barrier, Fault.barrier_fault, Fault.earliest_in}
use Rattle.loader.proofs.barriers.make_all.Given as goal

abbrev pub invariant-loop-n : goal.invariant-loop-n
invariant-loop-n l = record {
  so_far : earliest_in (barrier_fault l.rows) l.n (drop l.n l.barriers) ≡ earliest_in (barrier_fault l.rows) 0 l.barriers;
  made : l.made.items ≡ map new_barrier (take l.n l.barriers);
}
