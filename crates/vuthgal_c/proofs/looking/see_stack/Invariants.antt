use Rattle.std.specs.Prelude.{slice_index_or}
use Rattle.machine_scene.specs.Scene.{scene_of, thread_at}
use Rattle.thread_state.specs.Frame.{entry_of}
use Rattle.thread_state.specs.declared.frame.Frame.TheVariants as frame
use Rattle.vuthgal_c.specs.Looks.{IsFilled, entry_look}
use Rattle.vuthgal_c.proofs.looking.see_stack.Given as goal

-- those so far are in the room
abbrev pub invariant-loop-number : goal.invariant-loop-number
invariant-loop-number l =
    let stack = (thread_at (scene_of l.machine.scene) l.thread).stack in
    IsFilled (λ n. entry_look (entry_of (slice_index_or stack n (frame.Call 0)))) l.number l.initial.room l.room
