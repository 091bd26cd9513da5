use Rattle.std.proofs.Common.{◌≡◌, ◌++◌, drop}
use Rattle.machine_scene.specs.Scene.{scene_of, thread_at}
use Rattle.trace_text.specs.State.{stack_text}
use Rattle.trace_text.proofs.state.add_stack.Given as goal

abbrev pub invariant-loop-number : goal.invariant-loop-number
invariant-loop-number l =
    let stack = (thread_at (scene_of l.machine.scene) l.thread).stack in
    l.text.items ++ stack_text (drop l.number stack) ≡ l.initial.text.items ++ stack_text stack
