use Rattle.std.proofs.Common.{◌≡◌}
use Rattle.packed_phaser.specs.Word.{IsWord}
use Rattle.shared_phaser.specs.Known.{phaser_of}
use Rattle.shared_phaser.proofs.Tries.{RacesSoFar}
use Rattle.shared_phaser.proofs.phaser.SharedPhaser.within.Given as goal

abbrev pub invariant-loop-lost : goal.invariant-loop-lost
invariant-loop-lost g l = record {
  phaser : phaser_of l.party ≡ l.self;
  races : RacesSoFar l.initial.party.known l.lost l.last l.party.known;
  valid : IsWord l.last;
}
