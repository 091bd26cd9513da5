-- The choice that ended a run because there is no such thread, and its place from 1.
use Rattle.std.specs.Prelude.{◌≡◌, ℕ, ◌+◌, nat_lt, if◌then◌else◌, List, length, Option, Some, None, slice_get}
use Rattle.pictures.specs.Choices.{AreChoicesOf}
use Rattle.row_code.specs.declared.image.Image.{Image}
use Rattle.thread_machine.specs.{declared.choice.Choice.Choice, Execution.execution, World.World}
use Rattle.thread_machine.specs.declared.fault.StepFault.{StepFault}
use Rattle.trace_text.specs.{Start.Begins, declared.run_end.Refusal.Refusal}
use Rattle.thread_machine.specs.declared.fault.StepFault.TheVariants as fault

-- this is the next choice in a world
abbrev pub missing_by : World → Option Choice → Option (ℕ × Choice)
missing_by world None = None
missing_by world (Some choice) =
    if nat_lt choice.thread (length world.scene.threads) then None else Some (world.choices + 1, choice)

-- of these choices as many were played as led to this world
abbrev pub missing_at : World → List Choice → Option (ℕ × Choice)
missing_at world choices = missing_by world (slice_get choices world.choices)

-- these choices are played from a world on
abbrev pub missing_in : World → List Choice → Option (ℕ × Choice)
missing_in world choices = missing_at (execution world choices).world choices

-- an image's program is played under a schedule
abbrev pub IsMissingIn : Image → (schedule : List ℕ) → Option (ℕ × Choice) → Type 0
IsMissingIn image schedule missing =
    (world : World) × ((choices : List Choice) × (Begins image world × AreChoicesOf schedule choices
    × (missing ≡ missing_in world choices)))

-- the refused choice, and its place, if there is no such thread
abbrev pub missing_if : StepFault → ℕ → Choice → Option (ℕ × Choice)
missing_if fault.NoSuchThread number choice = Some (number, choice)
missing_if _ number choice = None

-- the same of the refusal that ended a run
abbrev pub missing_of : Option Refusal → Option (ℕ × Choice)
missing_of None = None
missing_of (Some refusal) = missing_if refusal.why refusal.number refusal.choice
