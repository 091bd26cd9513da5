-- What choices leave of the world, one after another and however the program's phasers are stored.
use Rattle.std.proofs.Common.{◌≡◌, ◌∙◌, ℕ, Bool, true, false, List, [], ◌∷◌, ap, refl, Option, Some, None, arith, is_some}
use Rattle.row_code.specs.declared.image.Image.{Image}
use Rattle.tier_tree.specs.Stored.{Stored}
use Rattle.loader.specs.Program.{without_words}
use Rattle.thread_state.specs.declared.event.Event.{Event}
use Rattle.thread_machine.specs.declared.{choice.Choice.Choice, fault.StepFault.StepFault}
use Rattle.thread_machine.specs.World.{World, StoredWorld, IsFirstOf, first_of, world_of}
use Rattle.thread_machine.specs.Step.{Played, played, refusal_of}
use Rattle.thread_machine.specs.Execution.{Execution, execution, execution_by}
use Rattle.headline.specs.{Headline.StoredAlike, Playing.Leaves}
use Rattle.trace_compare.proofs.OneVerdict.{as-stored, played-event, played-world, plays-same, refusal-same, state-same, stored}

-- how the phasers are stored makes no difference to an execution
abbrev stored_after : List Stored → Execution → Execution
stored_after phasers done = record done { world = stored phasers done.world }

execution-by : (phasers : List Stored) (refusal : Option StepFault) (world : World) (choice : Choice) (rest : World → Execution)
    → ((after : World) → rest (stored phasers after) ≡ stored_after phasers (rest after))
    → execution_by refusal (stored phasers world) choice rest ≡ stored_after phasers (execution_by refusal world choice rest)
execution-by phasers refusal world choice rest same = grind (arith, plays-same, stored, played-world, played-event)

execution-same : (choices : List Choice) (phasers : List Stored) (world : World)
    → execution (stored phasers world) choices ≡ stored_after phasers (execution world choices)
execution-same [] phasers world = refl
execution-same (choice ∷ choices) phasers world =
    ap (λ why. execution_by why (stored phasers world) choice (λ after. execution after choices)) (refusal-same phasers world choice)
    ∙ execution-by phasers (refusal_of world choice) world choice (λ after. execution after choices)
    (λ after. execution-same choices phasers after)

-- the program of an image leaves what the image's first world leaves
pub world_left : (image : Image) (limit : ℕ) (first left : World) (choices : List Choice) → IsFirstOf image limit first
    → left ≡ (execution first choices).world
    → record left { program = without_words left.program } ≡ (execution (first_of image limit) choices).world
world_left image limit first left choices is played = grind (arith, as-stored, execution-same)

pub stored_alike : StoredAlike
stored_alike image first is choices = grind (arith, as-stored, execution-same, world_left, state-same)

-- an accepted choice, and a refused one, as a machine's step tells them
pub led_on : (before after : World) (choice : Choice) (event : Event) → record { world = after; event = event } ≡ played before choice
    → refusal_of before choice ≡ None → Leaves before choice true after
led_on before after choice event is accepted = (accepted, ap (λ (play : Played). play.world) is)

pub led_nowhere : (before after : StoredWorld) (choice : Choice) (why : StepFault) → refusal_of (world_of before) choice ≡ Some why
    → after ≡ before → Leaves (world_of before) choice false (world_of after)
led_nowhere before after choice why refused same = (ap (λ why. is_some why) refused, ap world_of same)

-- an accepted choice, and those behind it
pub left_next : (now after : World) (choice : Choice) (rest more : List Choice) (accepted : Bool) → rest ≡ choice ∷ more
    → Leaves now choice accepted after → accepted ≡ true → (execution after more).world ≡ (execution now rest).world
left_next now after choice rest more accepted is led is_accepted = grind arith

-- a choice that is refused is the last
pub left_last : (now after : World) (choice : Choice) (rest more : List Choice) (accepted : Bool) → rest ≡ choice ∷ more
    → Leaves now choice accepted after → accepted ≡ false → after ≡ (execution now rest).world
left_last now after choice rest more accepted is led is_refused = grind arith
