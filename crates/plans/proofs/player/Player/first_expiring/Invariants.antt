use Rattle.std.proofs.Common.{◌≡◌, ◌-◌}
use Rattle.std.specs.List.{find, range_with_len}
use Rattle.plans.specs.Rules.{can_expire_in, thread_count, threads_from}
use Rattle.plans.proofs.player.Player.first_expiring.Given as goal

-- none so far passes
abbrev pub invariant-loop-t : goal.invariant-loop-t
invariant-loop-t l =
    find (can_expire_in l.self.world) (range_with_len l.t (thread_count l.self.world - l.t))
    ≡ find (can_expire_in l.self.world) (threads_from 0 l.self.world)
