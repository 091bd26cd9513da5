use Rattle.std.proofs.Common.{◌≡◌, take}
use Rattle.machine_scene.proofs.stage.copies.Given as goal

abbrev pub invariant-loop-thread : goal.invariant-loop-thread
invariant-loop-thread l = l.copies.items ≡ take l.thread-index l.threads
