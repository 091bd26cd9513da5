use Rattle.std.proofs.Common.{◌≡◌, ◌<◌, ℕ, false}
use Rattle.thread_runner.specs.{Recording.recorded_world, Waiting.wakes}
use Rattle.thread_runner.proofs.live.LiveState.some_wakes.Given as goal

-- none of the workers so far wakes
abbrev pub invariant-loop-thread : goal.invariant-loop-thread
invariant-loop-thread l =
    (k : ℕ) → k < l.thread → wakes l.self.broken (recorded_world l.self.journaled) l.self.sleepers k ≡ false
