use Rattle.std.proofs.Common.{drop}
use Rattle.headline.proofs.Backs.{SoFar, Walked}
use Rattle.headline.proofs.back.steps.Given as goal

abbrev pub invariant-loop-choice : goal.invariant-loop-choice
invariant-loop-choice l =
    SoFar l.initial.debugger l.choices l.debugger (drop l.choice-index l.choices) l.events.items
    × Walked l.initial.debugger l.choices l.debugger (drop l.choice-index l.choices)
