use Rattle.shared_phaser.proofs.phaser.SharedPhaser.force_within.Given as goal

abbrev pub ghosts-within : goal.ghosts-within
ghosts-within a = record { call = a.call }
