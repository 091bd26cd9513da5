use Rattle.debugger.proofs.Moves.{steps_and_backs}
use Rattle.debugger.proofs.law.steps_and_as_many_back_are_nothing.Goals as goal

pub returns : goal.returns
returns c = λ before after choices few room steps. steps_and_backs choices before after few room steps
