use Rattle.std.proofs.Common.{ℕ, List, sym, subst}
use Rattle.thread_machine.specs.World.{first_world}
use Rattle.thread_runner.specs.Replay.{IsRecordOf}
use Rattle.thread_runner.proofs.Replays.{nothing_recorded}
use Rattle.thread_runner.proofs.left_record.first_record.Goals as goal

pub returns-in-Err-clause-left : goal.returns-in-Err-clause-left
returns-in-Err-clause-left c =
    let first = first_world c.args.program c.args.limit in
    (first, subst (λ (text : List ℕ). IsRecordOf first text first) (sym c.new-in-Err.ensures.items) (nothing_recorded c.args.program c.args.limit))
