use Rattle.shared_phaser.proofs.phaser.SharedPhaser.arrive.Given as goal

abbrev pub ghosts-insist_promptly : goal.ghosts-insist_promptly
ghosts-insist_promptly g a = record { call = a.call }
