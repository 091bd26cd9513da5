use Rattle.std.proofs.Common.{rules}
use Rattle.shared_phaser.proofs.Parties.{splits}
use Rattle.shared_phaser.proofs.phaser.SharedPhaser.split.Goals as goal

pub split_seat-requires : goal.split_seat-requires
split_seat-requires c = search (rules, splits)
