use Rattle.std.proofs.Common.{◌≡◌}
use Rattle.shared_phaser.specs.Known.{phaser_of}
use Rattle.shared_phaser.proofs.Tries.{LaterThan}
use Rattle.shared_phaser.proofs.phaser.SharedPhaser.insist.Given as goal

abbrev pub invariant-loop : goal.invariant-loop
invariant-loop g l = record { phaser : phaser_of l.party ≡ l.self; later : LaterThan l.initial.party.known l.party.known }
