-- When a phase of an accepted program ends, and when a phaser is terminated.
use Rattle.std.proofs.Common.{◌≡◌, zero, suc, List, [], ◌∷◌, ap, refl, arith, Option, None}
use Rattle.packed_phaser.specs.Flat.{Flat}
use Rattle.tier_tree.specs.{Declaration.AreAllFresh, Forest.PhaserState, Origin.Origin}
use Rattle.row_code.specs.declared.image.Image.{Image}
use Rattle.loader.specs.Declarations.{declared_origin}
use Rattle.loader.proofs.Images.{all_made}
use Rattle.thread_state.specs.declared.frame.Frame.TheVariants as frame
use Rattle.machine_scene.proofs.Facts.{top_named}
use Rattle.thread_machine.specs.{declared.choice.Choice.Choice, declared.fault.StepFault.StepFault, World.World}
use Rattle.thread_machine.specs.{Step.played, Step.refusal_of, Execution.execution, Execution.execution_by}
use Rattle.thread_machine.specs.DirectCounts.{counts_after, counts_through}
use Rattle.thread_machine.proofs.SafeEnds.{Goes, goes_first, goes_keeps, goes_through, no_early_end_of}
use Rattle.headline.specs.Headline.{Accepted, ArrivalsAreTaken, EndsFewPhases, EndsNoPhaseEarly, NumbersChangeAtEnds, PhasesEndInTime, TerminationsAreSaid, start}
use Rattle.headline.proofs.{Choices.choice_goes, Choices.goes_next, Choices.stands_now, Taken.takes, Prompt.ArePrompt}
use Rattle.headline.proofs.LastArrivals.{are_counted, last_ends, routine_ends}

pub no_early_end : EndsNoPhaseEarly
no_early_end image (within, loads) = no_early_end_of image 1000000000 within loads (omega arith)

-- what holds after some choices
after_choices : (image : Image) → Accepted image → (choices : List Choice)
    → Goes (execution (start image) choices).world (counts_through (start image) choices (declared_origin image.phasers))
after_choices image (within, loads) choices =
    goes_through choices (start image) (declared_origin image.phasers) (goes_first image 1000000000 within loads (omega arith))

pub numbers_at_ends : NumbersChangeAtEnds
numbers_at_ends image accepted choices choice plays =
    let counts = counts_through (start image) choices (declared_origin image.phasers) in
    let goes = after_choices image accepted choices in (
      (goes_keeps (execution (start image) choices).world choice counts goes plays).numbers,
      (choice_goes (execution (start image) choices).world choice counts goes plays).1.numbers,
    )

pub terminations_said : TerminationsAreSaid
terminations_said image accepted choices choice plays =
    let now = (execution (start image) choices).world in
    let counts = counts_through (start image) choices (declared_origin image.phasers) in
    let goes = after_choices image accepted choices in
    let said = (choice_goes now choice counts goes plays).1.said in
    (said, are_counted now choice counts now.steps (stands_now now choice counts goes plays) goes.stands said)

pub are_taken : ArrivalsAreTaken
are_taken image accepted choices choice plays =
    let now = (execution (start image) choices).world in
    let counts = counts_through (start image) choices (declared_origin image.phasers) in
    let goes = after_choices image accepted choices in
    takes now choice counts now.steps (stands_now now choice counts goes plays) goes.stands

pub few_phases : EndsFewPhases
few_phases image accepted choices root =
    let goes = after_choices image accepted choices in
    omega (arith, goes.sound.trees.ends root, goes.steps, goes.limit)

-- before the first choice nobody has arrived
fresh_prompt : (phasers : List PhaserState) → AreAllFresh phasers → ArePrompt phasers
fresh_prompt [] are q = (omega arith, λ live one. absurd (omega (arith, one)))
fresh_prompt (phaser ∷ phasers) are zero =
    let none = ap (λ (f : Flat). f.arrived) (are 0 phaser (omega arith)) in
    (omega (arith, none), λ live one all. absurd (omega (arith, none, one, all)))
fresh_prompt (phaser ∷ phasers) are (suc q) = fresh_prompt phasers (λ k d there. are (suc k) d (omega (arith, there))) q

prompt_by : (why : Option StepFault) (world : World) (choice : Choice) (choices : List Choice) → refusal_of world choice ≡ why
    → ArePrompt world.scene.phasers
    → (refusal_of world choice ≡ None → ArePrompt (execution (played world choice).world choices).world.scene.phasers)
    → ArePrompt (execution_by why world choice (λ after. execution after choices)).world.scene.phasers
prompt_by why world choice choices is rest later = grind arith

stay_prompt : (choices : List Choice) (world : World) (origin : Origin) → Goes world origin → ArePrompt world.scene.phasers
    → ArePrompt (execution world choices).world.scene.phasers
stay_prompt [] world origin goes rest = rest
stay_prompt (choice ∷ choices) world origin goes rest =
    prompt_by (refusal_of world choice) world choice choices refl rest (λ accepted.
    stay_prompt choices (played world choice).world (counts_after world choice (played world choice).world origin)
    (goes_next world choice origin goes accepted) ((choice_goes world choice origin goes accepted).1.prompt rest))

pub ends_in_time : PhasesEndInTime
ends_in_time image (within, loads) choices choice plays =
    let now = (execution (start image) choices).world in
    let goes = after_choices image (within, loads) choices in
    let rest = stay_prompt choices (start image) (declared_origin image.phasers) (goes_first image 1000000000 within loads (omega arith))
    (fresh_prompt (start image).scene.phasers (all_made image loads).fresh) in
    let stands = stands_now now choice (counts_through (start image) choices (declared_origin image.phasers)) goes plays in (
      last_ends now choice (counts_through (start image) choices (declared_origin image.phasers)) now.steps stands goes.stands rest,
      routine_ends now choice now.steps
          (λ root registers back top. (top_named now.program now.steps now.scene choice.thread (frame.Advance root registers back) goes.sound stands.there top).1.0),
    )
