use Rattle.std.proofs.Common.{rules}
use Rattle.shared_phaser.proofs.phaser.SharedPhaser.arrive_within.Goals as goal

pub returns-clause-raced : goal.returns-clause-raced
returns-clause-raced c = search rules
