use Rattle.trace_compare.proofs.ChoicesLaws.{same-trace}
use Rattle.trace_compare.proofs.law.the_choices_of_a_trace_have_that_trace.Goals as goal

pub returns : goal.returns
returns c = same-trace
