use Rattle.std.proofs.{Common.arith, lemmas.Grind.common_steps}
use Rattle.trace_compare.proofs.RunLines.{at-next, kept-state}
use Rattle.trace_compare.proofs.comparison.Comparison.end_verdict.Goals as goal

pub returns-then-not-is_empty-clause-kept : goal.returns-then-not-is_empty-clause-kept
returns-then-not-is_empty-clause-kept c = grind (arith, common_steps, at-next, kept-state)
