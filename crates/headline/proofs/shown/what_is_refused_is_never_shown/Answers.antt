use Rattle.headline.proofs.Showing.{never-shown}
use Rattle.headline.proofs.shown.what_is_refused_is_never_shown.Goals as goal

pub returns : goal.returns
returns c = never-shown
