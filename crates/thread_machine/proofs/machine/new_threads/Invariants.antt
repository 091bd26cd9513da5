use Rattle.std.proofs.Common.{◌≡◌, map, take}
use Rattle.machine_scene.specs.Scene.{starting}
use Rattle.thread_machine.proofs.machine.new_threads.Given as goal

abbrev pub invariant-loop-thread : goal.invariant-loop-thread
invariant-loop-thread l = l.threads.items ≡ map starting (take l.thread-index l.declared)
