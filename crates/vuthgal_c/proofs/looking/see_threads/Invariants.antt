use Rattle.machine_scene.specs.Scene.{scene_of, thread_at}
use Rattle.vuthgal_c.specs.Looks.{IsFilled, thread_look}
use Rattle.vuthgal_c.proofs.looking.see_threads.Given as goal

-- those so far are in the room
abbrev pub invariant-loop-thread : goal.invariant-loop-thread
invariant-loop-thread l =
    IsFilled (λ t. thread_look l.machine.program (thread_at (scene_of l.machine.scene) t)) l.thread l.initial.room l.room
