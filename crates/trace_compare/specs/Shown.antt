-- The choices for which a trace has a line.
use Rattle.std.specs.Prelude.{List, [], ◌∷◌, Option, Some, None}
use Rattle.thread_machine.specs.{declared.choice.Choice.Choice, declared.fault.StepFault.StepFault, World.World}
use Rattle.thread_machine.specs.Step.{Played, played, refusal_of}

-- those after a choice, if it isn't refused
abbrev pub behind : Option StepFault → World → Choice → (World → List Choice) → List Choice
behind (Some fault) world choice rest = []
behind None world choice rest = let play : Played = played world choice in rest play.world

-- up to the first that is refused, and this one too
abbrev pub shown : World → List Choice → List Choice
shown world [] = []
shown world (choice ∷ choices) =
    choice ∷ behind (refusal_of world choice) world choice (λ after. shown after choices)
