use Rattle.std.proofs.Common.{◌∙◌, sym}
use Rattle.thread_runner.specs.Recording.{recorded_world}
use Rattle.thread_runner.proofs.Choosing.{due_unless}
use Rattle.thread_runner.proofs.live.LiveState.turn.Goals as goal

pub take-requires-clause-due : goal.take-requires-clause-due
take-requires-clause-due c =
    due_unless c.args.self.now.broken (recorded_world c.args.self.now.journaled) c.args.thread c.choice_of-choice.result c.requires.waits
    (sym c.leaves.ensures ∙ c.if-leaves.false) c.choice_of-choice.ensures
