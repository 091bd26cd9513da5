-- What an accepted choice makes of the barriers and of the trees.
use Rattle.std.proofs.Common.{◌≡◌, ℕ, ◌<◌, Bool, true, false, [], ◌∷◌, length, subst, arith, if◌then◌else◌, Option, Some, None}
use Rattle.instruction_table.specs.declared.row.Row.{Row}
use Rattle.tier_tree.specs.Origin.{Origin}
use Rattle.loader.specs.Program.{row_at}
use Rattle.machine_scene.proofs.{Outcomes.stands_at, Plain.StandsAt}
use Rattle.machine_scene.specs.Scene.{Outcome, Scene, barrier_at, thread_at}
use Rattle.thread_machine.specs.{declared.choice.Choice.Choice, World.World, Ready.outcome_of_choice}
use Rattle.thread_machine.specs.{Step.played, Step.played_by, Step.refusal_of, Execution.execution, Execution.execution_by}
use Rattle.thread_machine.specs.DirectCounts.{counts_after, counts_by}
use Rattle.thread_machine.proofs.SafeEnds.{Goes, goes_through}
use Rattle.thread_state.specs.declared.event.What.{What}
use Rattle.headline.specs.{Pasts.MakesBarrierCall, PhaseEnds.row_of}
use Rattle.headline.proofs.{BarrierCalls.GoesTo, Turns.GoIf, Turns.turn_goes, Turns.expiry_goes, TreeCalls.TreesGo}

-- an accepted choice is one of a thread that is there
is_there : (world : World) (choice : Choice) → refusal_of world choice ≡ None → choice.thread < length world.scene.threads
is_there world choice is = grind arith

by_kind : (expiry : Bool) (row : Option Row) (t : ℕ) (scene : Scene) (late turn : Option Outcome) → GoIf None true t scene late
    → GoIf row false t scene turn → GoIf (if expiry then None else row) expiry t scene (if expiry then late else turn)
by_kind true row t scene late turn a b = a
by_kind false row t scene late turn a b = b

-- what a choice makes of the barriers and of the trees
abbrev pub ChoiceGoes : What → Option Row → (expiry : Bool) → ℕ → World → World → Type 0
ChoiceGoes shown row expiry t before after =
    ((b : ℕ) → GoesTo shown (MakesBarrierCall row expiry t (thread_at before.scene t) b) (barrier_at before.scene b) (barrier_at after.scene b))
    × TreesGo row (thread_at before.scene t) before.scene.phasers after.scene.phasers

by_outcome : (outcome : Option Outcome) (row : Option Row) (expiry : Bool) (t : ℕ) (world : World) → GoIf row expiry t world.scene outcome
    → ChoiceGoes (played_by outcome world).event.what row expiry t world (played_by outcome world).world
by_outcome (Some outcome) row expiry t world goes = goes
by_outcome None row expiry t world goes = goes

-- where the thread of an accepted choice stands
pub stands_now : (world : World) (choice : Choice) (origin : Origin) → Goes world origin → refusal_of world choice ≡ None
    → let thread = thread_at world.scene choice.thread in
    StandsAt world.program world.steps choice.thread world.scene thread.status (row_at world.program.rows thread.pc)
stands_now world choice origin goes accepted = grind (arith, stands_at, is_there)

pub choice_goes : (world : World) (choice : Choice) (origin : Origin) → Goes world origin → refusal_of world choice ≡ None
    → ChoiceGoes (played world choice).event.what (row_of world choice) choice.expiry choice.thread world (played world choice).world
choice_goes world choice origin goes accepted =
    let most = goes.limit in
    let shown = goes.steps in
    let there = is_there world choice accepted in
    let t = choice.thread in
    by_outcome (outcome_of_choice world.program choice world.scene) (row_of world choice) choice.expiry t world
    (by_kind choice.expiry _ t world.scene _ _
    (expiry_goes world.program world.steps t world.scene goes.sound (omega (arith, most, shown)) there)
    (turn_goes world.program world.steps t world.scene goes.sound (omega (arith, most, shown)) there))

pub goes_next : (world : World) (choice : Choice) (origin : Origin) → Goes world origin → refusal_of world choice ≡ None
    → Goes (played world choice).world (counts_after world choice (played world choice).world origin)
goes_next world choice origin goes accepted =
    subst (λ why. Goes (execution_by why world choice (λ after. execution after [])).world
    (counts_by why origin (counts_after world choice (played world choice).world origin))) accepted
    (goes_through (choice ∷ []) world origin goes)
