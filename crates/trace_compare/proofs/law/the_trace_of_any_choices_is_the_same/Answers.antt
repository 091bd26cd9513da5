use Rattle.trace_compare.proofs.OwnTrace.{own-trace}
use Rattle.trace_compare.proofs.law.the_trace_of_any_choices_is_the_same.Goals as goal

pub returns : goal.returns
returns c = λ world choices few there. own-trace choices world 1 few there
