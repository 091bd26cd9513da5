use Rattle.std.proofs.Common.{rules}
use Rattle.shared_phaser.proofs.effect.arrival.Goals as goal

pub returns-in-Turned-clause-effect : goal.returns-in-Turned-clause-effect
returns-in-Turned-clause-effect c = search rules
