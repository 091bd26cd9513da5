-- No choice ends a phase early, nor does any in an execution.
use Rattle.std.proofs.Common.{◌≡◌, ℕ, ◌+◌, ◌<◌, ◌≤◌, Bool, true, false, List, [], ◌∷◌, length, map, ap, refl, sym, subst, ◌∙◌, arith, if◌then◌else◌, nat_le, is_some, Option, Some, None, Result, Ok, Err, IfOk, OnOk}
use Rattle.std.proofs.lemmas.{Bool.Decides.nat_tests, List.length-map}
use Rattle.tier_tree.specs.{Forest.PhaserState, Origin.Origin, Origin.AreTallied, Sound.IsForest, Stored.phasers_of}
use Rattle.row_code.specs.{declared.image.Image.Image, Image.IsImage}
use Rattle.loader.specs.{declared.counts.Counts.Counts, Fault.first_fault}
use Rattle.loader.specs.Declarations.{forest_of, declared_origin, new_barrier}
use Rattle.loader.specs.Program.{Program, IsCode, IsProgram, program_of, row_at}
use Rattle.loader.proofs.Images.{all_made, parts_of}
use Rattle.thread_state.specs.declared.event.Event.{Event}
use Rattle.machine_scene.specs.{Scene.Scene, Scene.Outcome, Scene.starting, Scene.thread_at, Sound.IsSound}
use Rattle.machine_scene.specs.Outcomes.{outcome_of, outcome_of_expiry}
use Rattle.machine_scene.proofs.Outcomes.{stands_at, sound_outcome, sound_timeout}
use Rattle.machine_scene.proofs.Start.{sound_start, sound_with}
use Rattle.thread_machine.specs.{declared.choice.Choice.Choice, declared.fault.StepFault.StepFault, Sound.IsMachine}
use Rattle.thread_machine.specs.World.{World, StoredWorld, world_of, first_of}
use Rattle.thread_machine.specs.{Ready.outcome_of_choice, Ready.is_choice_ready, Execution.execution, Execution.execution_by}
use Rattle.thread_machine.specs.Step.{Played, played, played_by, refusal_of}
use Rattle.thread_machine.specs.DirectCounts.{with_turn, counts_at_end, counts_after, ChoiceEndsNoPhaseEarly, NoPhaseEndsEarly, NoPhaseEndsEarlyFrom, NumbersStay, counts_by, counts_through}
use Rattle.thread_machine.proofs.PhaseEnds.{Fares}
use Rattle.thread_machine.proofs.DirectCounts.{phasers_after, FaresTo, IsAside, aside_fares, timeout_aside, turn_fares}

played_phasers : (outcome : Option Outcome) (world : World) → phasers_after outcome world.scene ≡ (played_by outcome world).world.scene.phasers
played_phasers outcome world = grind arith

by_kind : (expiry : Bool) (scene : Scene) (origin counted : Origin) (late turn : Option Outcome) → FaresTo scene origin late
    → FaresTo scene counted turn → FaresTo scene (if expiry then origin else counted) (if expiry then late else turn)
by_kind true scene origin counted late turn a b = a
by_kind false scene origin counted late turn a b = b

expiry_aside : (t : ℕ) (program : Program) (scene : Scene) → IsAside scene (outcome_of_expiry t program scene)
expiry_aside t program scene = grind (arith, IsAside, timeout_aside)

-- a choice of a thread that is there
pub choice_fares : (world : World) (choice : Choice) (origin : Origin) → IsSound world.program world.steps world.scene
    → world.steps < 2147483647 → choice.thread < length world.scene.threads → AreTallied world.scene.phasers origin
    → Fares world.scene.phasers (played world choice).world.scene.phasers (counts_at_end world choice origin)
choice_fares world choice origin sound few there stands =
    let program = world.program in
    let scene = world.scene in
    let t = choice.thread in
    let thread = thread_at scene t in
    let row = row_at program.rows thread.pc in
    subst (λ (phasers : List PhaserState). Fares scene.phasers phasers (counts_at_end world choice origin))
    (played_phasers (outcome_of_choice program choice scene) world)
    (by_kind choice.expiry scene origin (with_turn thread.status row t scene origin) (outcome_of_expiry t program scene) (outcome_of t program scene)
    (aside_fares (outcome_of_expiry t program scene) scene origin (expiry_aside t program scene) stands)
    (turn_fares thread.status row program world.steps t scene origin
    (stands_at program world.steps t scene thread.status sound few there refl) stands))

-- what a step of the machine may say of the counts
pub record Keeps (before : World) (choice : Choice) (after : World) (origin : Origin) : Type 0 where
  pub counts : AreTallied after.scene.phasers (counts_after before choice after origin)
  pub safe : ChoiceEndsNoPhaseEarly before choice after origin
  pub numbers : NumbersStay before.scene.phasers after.scene.phasers

choice_keeps : (world : World) (choice : Choice) (origin : Origin) → IsSound world.program world.steps world.scene
    → world.steps < 2147483647 → choice.thread < length world.scene.threads → AreTallied world.scene.phasers origin
    → Keeps world choice (played world choice).world origin
choice_keeps world choice origin sound few there stands =
    let fares = choice_fares world choice origin sound few there stands in
    record { counts = fares.stands; safe = fares.safe; numbers = fares.numbers }

-- the machine's step
pub step_keeps : (before after : StoredWorld) (event : Event) (choice : Choice) (origin : Origin) → IsMachine before
    → choice.thread < length before.scene.threads
    → record { world = world_of after; event = event } ≡ played (world_of before) choice
    → AreTallied (phasers_of before.scene.phasers) origin → Keeps (world_of before) choice (world_of after) origin
step_keeps before after event choice origin machine there is stands =
    let most = machine.limit in
    let done = machine.steps in
    subst (λ (play : Played). Keeps (world_of before) choice play.world origin) (sym is)
    (choice_keeps (world_of before) choice origin machine.sound (omega (arith, most, done)) there stands)

pub result_numbers : (result : Result Event StepFault) (before after : StoredWorld) (choice : Choice) → IsMachine before
    → choice.thread < length before.scene.threads
    → IfOk result (λ (event : Event). record { world = world_of after; event = event } ≡ played (world_of before) choice)
    → OnOk result (NumbersStay (phasers_of before.scene.phasers) (phasers_of after.scene.phasers))
result_numbers (Ok event) before after choice machine there is =
    let stands = machine.sound.trees.stands in
    (step_keeps before after event choice stands.0 machine there is stands.1).numbers
result_numbers (Err refused) before after choice machine there is = tt

-- a world in which a program has come some way, and the counts then
pub record Goes (world : World) (origin : Origin) : Type 0 where
  pub sound : IsSound world.program world.steps world.scene
  pub steps : world.steps ≤ world.limit
  pub limit : world.limit ≤ 1000000000
  pub stands : AreTallied world.scene.phasers origin

-- an order that was asked for the other way round
less_if : (m n : ℕ) → nat_le m n ≡ false → n < m
less_if m n is = grind (arith, nat_tests, is)

accepted : (world : World) (choice : Choice) → refusal_of world choice ≡ None
    → (choice.thread < length world.scene.threads)
    × (is_choice_ready world.program choice world.scene ≡ true → world.steps < world.limit)
accepted world choice is = grind (arith, less_if)

sound_choice : (expiry : Bool) (program : Program) (steps t : ℕ) (scene : Scene) (outcome : Outcome) → IsSound program steps scene
    → steps < 2147483647 → t < length scene.threads
    → (if expiry then outcome_of_expiry t program scene else outcome_of t program scene) ≡ Some outcome
    → IsSound program (steps + 1) outcome.scene
sound_choice true program steps t scene outcome sound few there is = sound_timeout program steps t scene outcome sound few there is
sound_choice false program steps t scene outcome sound few there is = sound_outcome program steps t scene outcome sound few there is

-- after a choice, by its outcome
goes_by : (outcome : Option Outcome) (world : World) (choice : Choice) (origin other : Origin) → Goes world origin
    → outcome_of_choice world.program choice world.scene ≡ outcome → choice.thread < length world.scene.threads
    → (is_choice_ready world.program choice world.scene ≡ true → world.steps < world.limit)
    → AreTallied (played_by outcome world).world.scene.phasers other → Goes (played_by outcome world).world other
goes_by (Some outcome) world choice origin other goes is there left stands =
    let most = goes.limit in
    let done = goes.steps in
    let more = left (ap is_some is) in
    record {
      sound = sound_choice choice.expiry world.program world.steps choice.thread world.scene outcome goes.sound (omega (arith, most, done)) there is;
      steps = omega (arith, more);
      limit = most;
      stands = stands;
    }
goes_by None world choice origin other goes is there left stands = grind arith

pub goes_keeps : (world : World) (choice : Choice) (origin : Origin) → Goes world origin → refusal_of world choice ≡ None
    → Keeps world choice (played world choice).world origin
goes_keeps world choice origin goes is =
    let most = goes.limit in
    let done = goes.steps in
    choice_keeps world choice origin goes.sound (omega (arith, most, done)) (accepted world choice is).0 goes.stands

-- after an accepted choice
goes_on : (world : World) (choice : Choice) (origin : Origin) → Goes world origin → refusal_of world choice ≡ None
    → Goes (played world choice).world (counts_after world choice (played world choice).world origin)
goes_on world choice origin goes is =
    let parts = accepted world choice is in
    goes_by (outcome_of_choice world.program choice world.scene) world choice origin
    (counts_after world choice (played world choice).world origin) goes refl parts.0 parts.1 (goes_keeps world choice origin goes is).counts

-- after the choices up to the first that is refused
goes_through_by : (refusal : Option StepFault) (world : World) (choice : Choice) (choices : List Choice) (origin : Origin) → Goes world origin
    → refusal_of world choice ≡ refusal
    → ((after : World) (other : Origin) → Goes after other → Goes (execution after choices).world (counts_through after choices other))
    → Goes (execution_by refusal world choice (λ after. execution after choices)).world
    (counts_by refusal origin
    (counts_through (played world choice).world choices (counts_after world choice (played world choice).world origin)))
goes_through_by (Some fault) world choice choices origin goes is rest = goes
goes_through_by None world choice choices origin goes is rest =
    let after = (played world choice).world in
    rest after (counts_after world choice after origin) (goes_on world choice origin goes is)

pub goes_through : (choices : List Choice) (world : World) (origin : Origin) → Goes world origin
    → Goes (execution world choices).world (counts_through world choices origin)
goes_through [] world origin goes = goes
goes_through (choice ∷ choices) world origin goes =
    goes_through_by (refusal_of world choice) world choice choices origin goes refl (λ after other. goes_through choices after other)

-- no accepted choice ends a phase early, whatever was chosen before
no_early_end_from : (first : World) (counts : Origin) → Goes first counts → NoPhaseEndsEarlyFrom first counts
no_early_end_from first counts goes choices choice is =
    (goes_keeps (execution first choices).world choice (counts_through first choices counts)
    (goes_through choices first counts goes) is).safe

pub no_early_end : (program : Program) (counts : Origin) → IsProgram program → IsForest (phasers_of program.phasers)
    → AreTallied (phasers_of program.phasers) counts → NoPhaseEndsEarly program counts
no_early_end program counts whole forest stands limit most = grind (arith, no_early_end_from, sound_start)

-- the world in which the program of an image without a fault begins
pub goes_first : (image : Image) (limit : ℕ) → IsImage image → first_fault image ≡ None → limit ≤ 1000000000
    → Goes (first_of image limit) (declared_origin image.phasers)
goes_first image limit fits none most =
    let made = all_made image none in
    let parts = parts_of image fits none in
    let heads : length (map starting image.threads) ≡ length image.threads = length-map image.threads starting in
    let counts : ℕ → ℕ → Counts = λ threads phasers. record {
      rows = length image.rows;
      threads = threads;
      phasers = phasers;
      barriers = length (map new_barrier image.barriers);
    } in
    let same : counts (length image.threads) (length image.phasers)
    ≡ counts (length (map starting image.threads)) (length (forest_of image.phasers)) =
    ap (λ n. counts n (length image.phasers)) (sym heads)
    ∙ ap (counts (length (map starting image.threads))) (sym made.many) in
    record {
      sound = sound_with (program_of image) (forest_of image.phasers) (subst (IsCode (program_of image)) same parts.code) parts.threads
          parts.barriers
          (record { fresh = made.fresh; ends = made.ends; stands = (declared_origin image.phasers, (λ root. refl), made.origin) })
          made.forest;
      steps = omega arith;
      limit = most;
      stands = made.origin;
    }

pub no_early_end_of : (image : Image) (limit : ℕ) → IsImage image → first_fault image ≡ None → limit ≤ 1000000000
    → NoPhaseEndsEarlyFrom (first_of image limit) (declared_origin image.phasers)
no_early_end_of image limit fits none most = grind (arith, no_early_end_from, goes_first)
