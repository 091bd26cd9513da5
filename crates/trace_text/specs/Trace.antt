-- The text of a trace: a line for each choice, and then the state of the machine.
use Rattle.std.specs.Prelude.{◌≡◌, ◌↔◌, IsTrue, ℕ, ◌+◌, Bool, List, [], ◌∷◌, ◌++◌, Option, Some, None}
use Rattle.std.specs.Io.KnownBytes.{Appends}
use Rattle.thread_machine.specs.{declared.choice.Choice.Choice, declared.fault.StepFault.StepFault, World.World}
use Rattle.thread_machine.specs.{Step.Played, Step.played, Step.refusal_of, Execution.execution}
use Rattle.thread_machine.specs.declared.fault.StepFault.TheVariants as fault
use Rattle.machine_scene.specs.Scene.{thread_at}
use Rattle.trace_text.specs.{declared.play.Refused.Refused, Lines.event_text, Lines.refusal_text, State.state_text}

-- the line of a choice, and the lines after it unless it is refused: a refused choice is the last
abbrev pub lines_by : Option StepFault → World → Choice → (World → List ℕ) → List ℕ
lines_by (Some fault.NoSuchThread) world choice rest = refusal_text (world.choices + 1) choice None
lines_by (Some fault.StepLimit) world choice rest =
    refusal_text (world.choices + 1) choice (Some (thread_at world.scene choice.thread).pc)
lines_by (Some fault.Memory) world choice rest = []
lines_by None world choice rest =
    let play : Played = played world choice in
    event_text (world.choices + 1) choice (thread_at world.scene choice.thread).pc play.event ++ rest play.world

-- the lines of the choices in order, up to the first that is refused (out of memory is no reason here)
abbrev pub lines_of : World → List Choice → List ℕ
lines_of world [] = []
lines_of world (choice ∷ choices) =
    lines_by (refusal_of world choice) world choice (λ after. lines_of after choices)

-- the lines of the choices, and the state of the world that their execution leaves
abbrev pub trace_of : World → List Choice → List ℕ
trace_of world choices = lines_of world choices ++ state_text (execution world choices).world

-- the first of these choices that is refused, if one is, and why
abbrev pub refused_by : Option StepFault → World → Choice → (World → Option Refused) → Option Refused
refused_by (Some why) world choice rest = Some (record { choice = choice; why = why })
refused_by None world choice rest = rest (played world choice).world

abbrev pub refused_of : World → List Choice → Option Refused
refused_of world [] = None
refused_of world (choice ∷ choices) =
    refused_by (refusal_of world choice) world choice (λ after. refused_of after choices)

-- choices were played: their lines were written, the world is the one after their execution, and the result is whether all of
-- them were accepted
pub record Plays (before after : World) (choices : List Choice) (all : Bool) (old new : Option (List ℕ)) : Type 0 where
  pub lines : Appends old new (lines_of before choices)
  pub world : after ≡ (execution before choices).world
  pub answer : IsTrue all ↔ ((execution before choices).refusal ≡ None)

-- a beginning of a text was written, perhaps nothing and perhaps all of it
abbrev pub AppendsPartOf : Option (List ℕ) → Option (List ℕ) → List ℕ → Type 0
AppendsPartOf old new text =
    (part : List ℕ) × ((rest : List ℕ) × ((text ≡ part ++ rest) × Appends old new part))
