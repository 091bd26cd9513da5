use Rattle.std.proofs.Common.{◌≡◌, ◌<◌, ℕ, false}
use Rattle.thread_runner.specs.{Recording.recorded_world, Turns.can_expire_in}
use Rattle.thread_runner.proofs.journaled.Journaled.some_lower.Given as goal

-- the wait of none of the threads so far may run out
abbrev pub invariant-loop-t : goal.invariant-loop-t
invariant-loop-t l = (k : ℕ) → k < l.t → can_expire_in (recorded_world l.self) k ≡ false
