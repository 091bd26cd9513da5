use Rattle.workbench.specs.Debug.{HasNoEnd}
use Rattle.guided_session.proofs.guided.put_line.Given as goal

abbrev pub invariant-loop-byte : goal.invariant-loop-byte
invariant-loop-byte l = HasNoEnd l.line.items
