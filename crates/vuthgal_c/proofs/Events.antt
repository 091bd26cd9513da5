-- What a choice of a session did.
use Rattle.std.proofs.Common.{◌≡◌, ◌∙◌, ◌+◌, ◌<◌, ℕ, length, refl, ap, arith, Option, Some, None}
use Rattle.machine_scene.specs.Scene.{Outcome, scene_of, thread_at}
use Rattle.thread_machine.specs.{Ready.outcome_of_choice, Step.Played, Step.played, Step.played_by, Step.refusal_of}
use Rattle.thread_machine.specs.{World.World, World.world_of, declared.choice.Choice.Choice}
use Rattle.thread_state.specs.declared.event.Event.{Event}
use Rattle.debugger.specs.Session.{went_on}
use Rattle.vuthgal_c.specs.{Looks.event_look, Sessions.HasStepped, Sessions.Kept, declared.look.EventLook.EventLook}

there : (world : World) (choice : Choice) → refusal_of world choice ≡ None → choice.thread < length world.scene.threads
there world choice is = grind arith

counted_by : (outcome : Option Outcome) (world : World) → (played_by outcome world).world.choices ≡ world.choices + 1
counted_by (Some outcome) world = refl
counted_by None world = refl

-- it is the choice after those before, at the row of its thread, and its event is the row's
pub has_stepped : (kept next : Kept) (choice : Choice) (event : Event) (number row : ℕ) (look : EventLook)
    → refusal_of (world_of kept.debugger.machine) choice ≡ None
    → (let both : Played = record { world = world_of next.debugger.machine; event = event } in both ≡ played (world_of kept.debugger.machine) choice)
    → next.debugger ≡ went_on kept.debugger next.debugger.machine → next.reply ≡ kept.reply → next.image ≡ kept.image
    → number ≡ next.debugger.machine.choices
    → (choice.thread < length kept.debugger.machine.scene.threads → row ≡ (thread_at (scene_of kept.debugger.machine.scene) choice.thread).pc)
    → look ≡ event_look number row event → HasStepped kept choice next look
has_stepped kept next choice event number row look accepted both session reply image counted at is =
    let world = world_of kept.debugger.machine in
    let number_is = counted ∙ ap (λ (p : Played). p.world.choices) both
    ∙ counted_by (outcome_of_choice world.program choice world.scene) world in
    let row_is = at (there world choice accepted) in (
      record { accepted = accepted; world = ap (λ (p : Played). p.world) both; session = session },
      reply,
      image,
      is ∙ ap (λ (n : ℕ). event_look n row event) number_is ∙ ap (λ (r : ℕ). event_look (world.choices + 1) r event) row_is
          ∙ ap (λ (p : Played). event_look (world.choices + 1) (thread_at world.scene choice.thread).pc p.event) both,
    )
