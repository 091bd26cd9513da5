use Rattle.thread_runner.proofs.runner.fn.start.scope.Given as goal

abbrev pub invariant-loop-thread : goal.invariant-loop-thread
invariant-loop-thread g l = Unit {0}
