use Rattle.std.proofs.Common.{◌≡◌, drop}
use Rattle.plans.specs.Others.{all_kept}
use Rattle.plans.proofs.player.Player.keep_all.Given as goal

-- the choices that are left lead to where all lead
abbrev pub invariant-loop-choice : goal.invariant-loop-choice
invariant-loop-choice l = all_kept (drop l.choice-index l.choices) l.self ≡ all_kept l.choices l.initial.self
