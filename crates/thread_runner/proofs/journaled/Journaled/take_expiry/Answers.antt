use Rattle.std.proofs.Common.{arith}
use Rattle.thread_runner.proofs.Choosing.{due_by_expiry}
use Rattle.thread_runner.proofs.journaled.Journaled.take_expiry.Goals as goal

pub take-requires-clause-due : goal.take-requires-clause-due
take-requires-clause-due c = grind (arith, due_by_expiry)
