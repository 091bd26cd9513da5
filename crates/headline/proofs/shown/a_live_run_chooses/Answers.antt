use Rattle.headline.proofs.FirstTurns.{chooses}
use Rattle.headline.proofs.shown.a_live_run_chooses.Goals as goal

pub returns : goal.returns
returns c = chooses
