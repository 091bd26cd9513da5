use Rattle.std.proofs.Common.{◌≡◌, ◌-◌}
use Rattle.plans.specs.{Play.repeated, Progress.chosen}
use Rattle.plans.proofs.player.Player.repeat.Given as goal

-- the times that are left lead to where all lead
abbrev pub invariant-loop-done : goal.invariant-loop-done
invariant-loop-done l = repeated (l.times - l.done) (chosen l.choice) l.self ≡ repeated l.times (chosen l.choice) l.initial.self
