use Rattle.std.proofs.Common.{◌≡◌, ◌<◌, ℕ, false}
use Rattle.thread_runner.specs.{Recording.recorded_world, Turns.is_ready_in}
use Rattle.thread_runner.proofs.journaled.Journaled.some_turn.Given as goal

-- none of the threads so far is ready
abbrev pub invariant-loop-t : goal.invariant-loop-t
invariant-loop-t l = (k : ℕ) → k < l.t → is_ready_in (recorded_world l.self) k ≡ false
