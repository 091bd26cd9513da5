use Rattle.std.proofs.Common.{◌∙◌, ap, map, List}
use Rattle.row_code.specs.declared.threads.DeclaredThread.{DeclaredThread}
use Rattle.machine_scene.specs.{Scene.starting, Sound.most_after}
use Rattle.thread_machine.proofs.Sound.{first_parts}
use Rattle.thread_machine.proofs.machine.first_stage.Goals as goal

pub new-requires-clause-sound : goal.new-requires-clause-sound
new-requires-clause-sound c =
    first_parts c.args.program.now most_after c.in_ok-threads.threads.items c.in_ok-forest.forest c.in_ok-barriers.barriers.items
    (c.a_first_scene_is_sound.ensures most_after)
    (c.in_ok-threads.ensures ∙ ap (λ (xs : List DeclaredThread). map starting xs) c.threads.ensures)
    (c.in_ok-forest.ensures ∙ c.phasers.ensures)
    (c.in_ok-barriers.ensures.items ∙ c.barriers.ensures)
