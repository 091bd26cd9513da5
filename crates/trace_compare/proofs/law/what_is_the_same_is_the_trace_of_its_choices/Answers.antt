use Rattle.trace_compare.proofs.SameTrace.{same-trace}
use Rattle.trace_compare.proofs.law.what_is_the_same_is_the_trace_of_its_choices.Goals as goal

pub returns : goal.returns
returns c = same-trace
