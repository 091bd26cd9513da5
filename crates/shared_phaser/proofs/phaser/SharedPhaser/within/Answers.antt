use Rattle.std.proofs.Common.{refl, arith, inl}
use Rattle.packed_phaser.specs.Word.{fields_of}
use Rattle.shared_phaser.proofs.Tries.{race_more}
use Rattle.shared_phaser.proofs.phaser.SharedPhaser.within.Goals as goal

pub loop-lost-init : goal.loop-lost-init
unfolding fields_of
loop-lost-init g c = record { phaser = c.requires.phaser; races = inl (refl, refl); valid = (omega arith, omega arith) }

pub loop-lost-preserved : goal.loop-lost-preserved
loop-lost-preserved g c = grind (arith, race_more)
