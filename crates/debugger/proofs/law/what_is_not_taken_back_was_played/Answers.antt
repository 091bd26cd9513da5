use Rattle.debugger.proofs.Moves.{any_moves}
use Rattle.debugger.proofs.law.what_is_not_taken_back_was_played.Goals as goal

pub returns : goal.returns
returns c = λ first choices before after moves history moved. any_moves moves first choices before after history moved
