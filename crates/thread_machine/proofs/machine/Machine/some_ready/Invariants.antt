use Rattle.std.proofs.Common.{◌≡◌, ◌<◌, ℕ, false}
use Rattle.machine_scene.specs.Scene.{scene_of}
use Rattle.thread_machine.specs.Ready.{can_expire}
use Rattle.thread_machine.proofs.machine.Machine.some_ready.Given as goal

-- the time of none of the waits so far may run out
abbrev pub invariant-loop-t : goal.invariant-loop-t
invariant-loop-t l = (k : ℕ) → k < l.t → can_expire k l.self.program (scene_of l.self.scene) ≡ false
