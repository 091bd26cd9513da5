use Rattle.std.proofs.{Common.arith, lemmas.Grind.common_steps}
use Rattle.trace_text.proofs.FirstWords.{named_behind, named_none}
use Rattle.trace_text.proofs.trace_line.choice_in.Goals as goal

pub returns-then-end-eq0 : goal.returns-then-end-eq0
returns-then-end-eq0 c = grind (arith, common_steps, named_none)

pub returns : goal.returns
returns c = grind (arith, common_steps, named_behind)
