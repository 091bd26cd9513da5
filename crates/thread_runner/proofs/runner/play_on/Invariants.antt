use Rattle.std.proofs.Common.{◌≡◌, ◌-◌, ◌++◌, List, length}
use Rattle.thread_machine.specs.declared.choice.Choice.{Choice}
use Rattle.thread_runner.proofs.runner.play_on.Given as goal

-- it is still a record from the same first world, of the same choices and perhaps more
abbrev pub invariant-loop-ending : goal.invariant-loop-ending
invariant-loop-ending l = (l.journaled.first ≡ l.initial.journaled.first)
    × ((more : List Choice) × (l.journaled.choices ≡ l.initial.journaled.choices ++ more))

abbrev pub decreases-loop-ending : goal.decreases-loop-ending
decreases-loop-ending l = l.journaled.first.limit - length l.journaled.choices
