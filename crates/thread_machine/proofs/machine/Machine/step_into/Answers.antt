use Rattle.std.proofs.Common.{◌∙◌, ap}
use Rattle.machine_scene.specs.Undo.{note_of}
use Rattle.thread_machine.specs.World.{StoredWorld}
use Rattle.thread_machine.proofs.Steps.{kept_by, step_is}
use Rattle.thread_machine.proofs.machine.Machine.step_into.Goals as goal

pub returns : goal.returns
returns c =
    let choice = c.args.choice in
    let old = c.args.self.now in
    let note = c.note.ensures ∙ ap (λ (world : StoredWorld). note_of choice.thread world.program world.scene) c.self.view_is in
    step_is c.play-played.result old c.play-played.new.self choice _ c.is_sound.ensures c.play-played.ensures
    (λ there. kept_by c.is_choice_ready-is_turn.result c.note.new.note choice old c.is_choice_ready-is_turn.ensures note)
