use Rattle.std.proofs.Common.{subst}
use Rattle.tier_tree.specs.Stored.{IsStored}
use Rattle.thread_machine.proofs.SafeEnds.{no_early_end}
use Rattle.loader.specs.Declarations.{declared_origin}
use Rattle.thread_machine.proofs.law.no_phase_ends_early.Goals as goal

pub returns-clause-any : goal.returns-clause-any
returns-clause-any c counts stands =
    no_early_end c.args.program.now counts c.each_program_is_whole.ensures
    (subst IsStored c.phasers.ensures c.is_forest.ensures).places stands

pub returns-clause-declared : goal.returns-clause-declared
returns-clause-declared c image whole =
    no_early_end c.args.program.now (declared_origin image.phasers) c.each_program_is_whole.ensures
    (subst IsStored c.phasers.ensures c.is_forest.ensures).places whole.origin
