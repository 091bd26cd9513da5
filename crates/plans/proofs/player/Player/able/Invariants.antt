use Rattle.std.proofs.Common.{◌≡◌, ◌-◌, ◌++◌}
use Rattle.std.specs.List.{filter_map, range_with_len}
use Rattle.plans.specs.Rules.{able, choice_in, thread_count}
use Rattle.plans.proofs.player.Player.able.Given as goal

-- the choices of the threads so far, and those of the others
abbrev pub invariant-loop-t : goal.invariant-loop-t
invariant-loop-t l =
    l.choices.items ++ filter_map (choice_in l.self.world) (range_with_len l.t (thread_count l.self.world - l.t)) ≡ able l.self.world
