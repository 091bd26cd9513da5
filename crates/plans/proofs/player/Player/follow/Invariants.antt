use Rattle.std.proofs.Common.{◌≡◌, ◌-◌}
use Rattle.plans.specs.Play.{followed}
use Rattle.plans.proofs.player.Player.follow.Given as goal

-- the choices that are left lead to where all lead
abbrev pub invariant-loop-k : goal.invariant-loop-k
invariant-loop-k l = followed l.rule (l.most - l.k) l.k l.self ≡ followed l.rule l.most 0 l.initial.self
