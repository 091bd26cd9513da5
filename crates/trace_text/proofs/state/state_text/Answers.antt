use Rattle.thread_machine.specs.World.{world_of}
use Rattle.trace_text.proofs.StateLines.{state-short}
use Rattle.trace_text.proofs.state.state_text.Goals as goal

pub returns-clause-lines : goal.returns-clause-lines
returns-clause-lines c = state-short (world_of c.args.machine.now) c.in_ok-add_threads.ensures.brief
