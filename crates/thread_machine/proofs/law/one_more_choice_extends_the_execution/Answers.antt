use Rattle.thread_machine.proofs.Executions.{execution-snoc}
use Rattle.thread_machine.proofs.law.one_more_choice_extends_the_execution.Goals as goal

pub returns : goal.returns
returns c world choices choice = execution-snoc choices world choice
