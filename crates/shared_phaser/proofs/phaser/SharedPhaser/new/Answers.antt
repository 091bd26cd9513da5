use Rattle.std.proofs.Common.{rules}
use Rattle.shared_phaser.proofs.Parties.{starts}
use Rattle.shared_phaser.proofs.phaser.SharedPhaser.new.Goals as goal

pub of_words-requires : goal.of_words-requires
of_words-requires c = starts _ _ (search rules) (search rules)
