use Rattle.machine_scene.specs.Scene.{scene_of, barrier_at}
use Rattle.vuthgal_c.specs.Looks.{IsFilled, barrier_look}
use Rattle.vuthgal_c.proofs.looking.see_barriers.Given as goal

-- those so far are in the room
abbrev pub invariant-loop-barrier : goal.invariant-loop-barrier
invariant-loop-barrier l =
    IsFilled (λ b. barrier_look (barrier_at (scene_of l.machine.scene) b)) l.barrier l.initial.room l.room
