use Rattle.thread_machine.proofs.Limits.{execution_under}
use Rattle.thread_machine.proofs.law.a_higher_limit_changes_nothing_that_was_accepted.Goals as goal

pub returns : goal.returns
returns c limit world choices higher accepted = execution_under limit choices world higher accepted
