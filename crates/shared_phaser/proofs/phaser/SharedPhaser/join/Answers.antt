use Rattle.std.proofs.Common.{rules, ap, ◌∙◌}
use Rattle.shared_phaser.proofs.{Parties.joins, Plays.watches}
use Rattle.shared_phaser.proofs.phaser.SharedPhaser.join.Goals as goal

pub join_seat-requires : goal.join_seat-requires
join_seat-requires c = search (rules, joins)

pub load-requires : goal.load-requires
load-requires c = (search rules, search rules, watches _ _ _ _ (ap (λ m. m.0.live) c.join_seat.ensures.2 ∙ c.first.invariant.0))
