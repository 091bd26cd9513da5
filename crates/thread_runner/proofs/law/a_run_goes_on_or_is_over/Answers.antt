use Rattle.thread_runner.proofs.Choosing.{chooser}
use Rattle.thread_runner.proofs.law.a_run_goes_on_or_is_over.Goals as goal

pub returns : goal.returns
returns c = λ world none. let found = chooser world none in (found.at, found.there, found.chooses)
