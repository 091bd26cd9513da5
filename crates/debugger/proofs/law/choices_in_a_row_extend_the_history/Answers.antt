use Rattle.debugger.proofs.Goes.{history_of_steps}
use Rattle.debugger.proofs.law.choices_in_a_row_extend_the_history.Goals as goal

pub returns : goal.returns
returns c = λ first choices more before after history steps. history_of_steps more first choices before after history steps
