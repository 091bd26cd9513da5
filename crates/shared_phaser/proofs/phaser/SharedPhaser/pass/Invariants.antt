use Rattle.shared_phaser.proofs.phaser.SharedPhaser.pass.Given as goal

abbrev pub ghosts-insist : goal.ghosts-insist
ghosts-insist g a = record { call = a.call }
