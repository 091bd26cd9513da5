use Rattle.machine_scene.specs.Scene.{scene_of, cell_at}
use Rattle.vuthgal_c.specs.Looks.{IsFilled}
use Rattle.vuthgal_c.proofs.looking.see_cells.Given as goal

-- those so far are in the room
abbrev pub invariant-loop-cell : goal.invariant-loop-cell
invariant-loop-cell l =
    IsFilled (λ cell. cell_at (scene_of l.machine.scene) cell) l.cell l.initial.room l.room
