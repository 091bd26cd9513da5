use Rattle.std.proofs.Common.{◌≡◌, drop}
use Rattle.thread_machine.specs.{World.world_of, Execution.execution}
use Rattle.headline.proofs.machine.play_all.Given as goal

abbrev pub invariant-loop-choice : goal.invariant-loop-choice
invariant-loop-choice l =
    (execution (world_of l.machine) (drop l.choice-index l.choices)).world
    ≡ (execution (world_of l.initial.machine) l.choices).world
