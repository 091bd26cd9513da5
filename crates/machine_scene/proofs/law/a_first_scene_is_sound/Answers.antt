use Rattle.std.proofs.Common.{subst}
use Rattle.tier_tree.specs.Stored.{IsStored}
use Rattle.machine_scene.proofs.Start.{first_scene_is_sound}
use Rattle.machine_scene.proofs.law.a_first_scene_is_sound.Goals as goal

pub returns : goal.returns
returns c = λ steps.
    first_scene_is_sound c.args.program.now c.each_program_is_whole.ensures (subst IsStored c.phasers.ensures c.is_forest.ensures) steps
