use Rattle.thread_runner.proofs.Choosing.{not_all_wait}
use Rattle.thread_runner.proofs.law.some_worker_does_not_wait.Goals as goal

pub returns : goal.returns
returns c = λ broken world some all. not_all_wait broken world some all
