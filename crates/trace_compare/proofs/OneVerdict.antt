-- How the phasers of a program are stored makes no difference to a choice, nor to what is shown of the state.
use Rattle.std.proofs.Common.{◌≡◌, ◌&&◌, ◌++◌, not, codes, decimal, ℕ, Bool, List, cond, Option, ap, arith}
use Rattle.row_code.specs.declared.image.Image.{Image}
use Rattle.tier_tree.specs.Stored.{Stored}
use Rattle.machine_scene.specs.Scene.{Outcome}
use Rattle.thread_machine.specs.{declared.choice.Choice.Choice, World.World, World.IsFirstOf, World.first_of, Standing.name_of}
use Rattle.thread_machine.specs.Ready.{all_finished, has_ended, outcome_of_choice}
use Rattle.thread_machine.specs.Step.{played, played_by, refusal_of}
use Rattle.thread_machine.specs.declared.standing.Standing.TheVariants as standing
use Rattle.trace_text.specs.State.{state_text}
use Rattle.trace_text.proofs.StateLines.{parts_text}
use Rattle.trace_compare.proofs.StoredOtherwise.{outcome-same, some_ready-same, stored_in}

-- a world of a program whose phasers are stored otherwise
abbrev pub stored : List Stored → World → World
stored phasers world = record world { program = stored_in phasers world.program }

pub refusal-same : (phasers : List Stored) (world : World) (choice : Choice)
    → refusal_of (stored phasers world) choice ≡ refusal_of world choice
refusal-same phasers world choice = grind (arith, outcome-same)

-- what is shown of how far the program is
text_by : Bool → World → List ℕ
text_by ready world =
    codes "state " ++ (decimal world.choices ++ (codes " " ++ (decimal world.steps ++ (codes " "
    ++ (name_of (cond (has_ended world) standing.All (cond (not (all_finished world.scene) && not ready) standing.Stuck standing.Live))
    ++ (codes "\n" ++ parts_text world))))))

pub state-same : (phasers : List Stored) (world : World) → state_text (stored phasers world) ≡ state_text world
unfolding text_by
state-same phasers world = ap (λ ready. text_by ready world) (some_ready-same phasers world.program world.scene)

pub played-world : (phasers : List Stored) (outcome : Option Outcome) (world : World)
    → (played_by outcome (stored phasers world)).world ≡ stored phasers (played_by outcome world).world
played-world phasers outcome world = grind arith

pub played-event : (phasers : List Stored) (outcome : Option Outcome) (world : World)
    → (played_by outcome (stored phasers world)).event ≡ (played_by outcome world).event
played-event phasers outcome world = grind arith

-- a choice is played by what it comes to
pub plays-same : (phasers : List Stored) (world : World) (choice : Choice)
    → played (stored phasers world) choice ≡ played_by (outcome_of_choice world.program choice world.scene) (stored phasers world)
plays-same phasers world choice = grind (arith, outcome-same)

-- a world in which the program of an image begins is the image's first, stored otherwise
pub as-stored : (image : Image) (limit : ℕ) (world : World) → IsFirstOf image limit world
    → world ≡ stored world.program.phasers (first_of image limit)
as-stored image limit world is = ap (stored world.program.phasers) is
