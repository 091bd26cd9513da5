use Rattle.std.specs.Prelude.{pos, slice_index_or}
use Rattle.machine_scene.specs.Scene.{scene_of, thread_at}
use Rattle.vuthgal_c.specs.Looks.{IsFilled}
use Rattle.vuthgal_c.proofs.looking.see_outputs.Given as goal

-- those so far are in the room
abbrev pub invariant-loop-number : goal.invariant-loop-number
invariant-loop-number l =
    let output = (thread_at (scene_of l.machine.scene) l.thread).output in
    IsFilled (λ n. slice_index_or output n (pos 0)) l.number l.initial.room l.room
