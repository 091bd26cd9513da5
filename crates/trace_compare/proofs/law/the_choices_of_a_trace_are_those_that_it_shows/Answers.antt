use Rattle.trace_compare.proofs.ChoicesLaws.{all-shown, trace-choices}
use Rattle.trace_compare.proofs.law.the_choices_of_a_trace_are_those_that_it_shows.Goals as goal

pub returns-clause-choices : goal.returns-clause-choices
returns-clause-choices c = λ world choices few there. trace-choices choices world few there

pub returns-clause-all : goal.returns-clause-all
returns-clause-all c = λ world choices none. all-shown choices world none
