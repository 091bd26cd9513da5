use Rattle.std.proofs.Common.{◌∙◌, subst}
use Rattle.tier_tree.specs.Stored.{IsStored}
use Rattle.thread_machine.proofs.Sound.{machine_starts}
use Rattle.thread_machine.proofs.machine.Machine.new.Goals as goal

pub invariant_of-result : goal.invariant_of-result
invariant_of-result c =
    machine_starts c.args.program c.args.limit c.in_ok-stage.stage c.each_program_is_whole.ensures
    (subst IsStored (c.forest.ensures ∙ c.in_ok-stage.ensures.stored) c.is_forest.ensures)
    c.requires c.in_ok-stage.ensures.scene c.in_ok-stage.ensures.ready
