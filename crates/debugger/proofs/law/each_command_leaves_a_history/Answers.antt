use Rattle.debugger.proofs.Standings.{goes_on_with}
use Rattle.debugger.proofs.law.each_command_leaves_a_history.Goals as goal

pub returns : goal.returns
returns c = λ first choices before after order reply history replies.
    goes_on_with order first choices before after reply history replies
