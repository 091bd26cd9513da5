use Rattle.thread_machine.specs.Execution.{execution}
use Rattle.thread_runner.specs.Turns.{expiry_of}
use Rattle.thread_runner.proofs.{Choosing.none_is_ready, Replays.due_at}
use Rattle.thread_runner.proofs.law.no_time_passes_while_a_thread_is_ready.Goals as goal

pub returns : goal.returns
returns c = λ first last before rest waiting t replay there.
    none_is_ready (execution first before).world waiting t
    (due_at before first (expiry_of waiting) rest replay.accepted replay.due) there
