use Rattle.std.proofs.Common.{◌≡◌, ◌++◌, drop}
use Rattle.machine_scene.specs.Scene.{scene_of, thread_at}
use Rattle.trace_text.specs.State.{registers_text}
use Rattle.trace_text.proofs.state.add_registers.Given as goal

abbrev pub invariant-loop-register : goal.invariant-loop-register
invariant-loop-register l =
    let values = (thread_at (scene_of l.machine.scene) l.thread).registers in
    l.text.items ++ registers_text values (drop l.register-index l.registers)
    ≡ l.initial.text.items ++ registers_text values l.registers
