use Rattle.std.proofs.Common.{◌≡◌, ◌<◌, ℕ, false}
use Rattle.thread_runner.specs.{Recording.recorded_world, Turns.may_choose}
use Rattle.thread_runner.proofs.journaled.Journaled.take_next.Given as goal

-- nothing was chosen yet, and none of the threads so far has a choice to make
abbrev pub invariant-loop-t : goal.invariant-loop-t
invariant-loop-t l = (l.self ≡ l.initial.self) × ((k : ℕ) → k < l.t → may_choose (recorded_world l.self) k ≡ false)
