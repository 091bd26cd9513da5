use Rattle.tier_tree.specs.{Declaration.AreAllFresh, Stored.phasers_of}
use Rattle.run_tests.proofs.trees.planted.Given as goal

abbrev pub invariant-loop-plan : goal.invariant-loop-plan
invariant-loop-plan l = AreAllFresh (phasers_of l.forest)
