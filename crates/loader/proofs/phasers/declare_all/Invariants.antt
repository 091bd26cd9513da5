use Rattle.std.proofs.Common.{◌≡◌, drop}
use Rattle.loader.specs.{Declarations.AreDeclared, Fault.listed_phaser_fault, Fault.earliest_in}
use Rattle.loader.proofs.phasers.declare_all.Given as goal

abbrev pub invariant-loop-n : goal.invariant-loop-n
invariant-loop-n l = record {
  so_far : earliest_in (listed_phaser_fault l.rows l.phasers) l.n (drop l.n l.phasers)
      ≡ earliest_in (listed_phaser_fault l.rows l.phasers) 0 l.phasers;
  declared : AreDeclared l.n l.phasers l.forest;
}
