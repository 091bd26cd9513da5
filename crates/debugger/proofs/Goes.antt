-- Choices that are played one list after another, up to a break or a refusal.
use Rattle.std.proofs.Common.{◌≡◌, ◌∙◌, ◌↔◌, ◌+◌, ◌-◌, ◌≤◌, ℕ, Bool, true, false, List, [], ◌∷◌, ◌++◌, Option, Some, None, Result, Err, length, refl, ap, sym, subst, arith, append_assoc, append-nil, rules, ◌≢◌, ◌&&◌, is_some, length-append}
use Rattle.machine_scene.specs.Scene.{Outcome, scene_of, thread_at}
use Rattle.thread_machine.specs.{World.World, World.world_of, declared.choice.Choice.Choice, declared.fault.StepFault.StepFault}
use Rattle.thread_machine.specs.declared.fault.StepFault.TheVariants.{NoSuchThread, StepLimit, Memory}
use Rattle.thread_machine.specs.Ready.{outcome_of_choice, is_choice_ready}
use Rattle.thread_machine.specs.Step.{Played, played, played_by, refusal_of, puts_out}
use Rattle.thread_state.specs.declared.event.Event.{Event}
use Rattle.debugger.specs.{declared.stop.Stop.Stop, declared.session.go.Went.Went, Moves.IsSessionStep, Moves.AreSteps}
use Rattle.debugger.specs.{Session.Session, Session.went_on, Session.world_after, Session.IsHistory, Goes.Goes}
use Rattle.debugger.specs.Go.{is_at_break, is_break, Refuses, PlaysOn, Ends, Breaks, Faults, Stops}
use Rattle.debugger.specs.Reply.{IsStepUnless}
use Rattle.debugger.specs.declared.stop.Stop.TheVariants as stop
use Rattle.debugger.proofs.Histories.{history_on}

-- what a step's answer says
pub is_step : (before after : Session) (choice : Choice) (event : Event)
    → (let both : Played = record { world = world_of after.machine; event = event } in both ≡ played (world_of before.machine) choice)
    → refusal_of (world_of before.machine) choice ≡ None → after ≡ went_on before after.machine → IsSessionStep before choice after
is_step before after choice event both accepted session = grind arith

refuses : (why : StepFault) (world : World) (choice : Choice) (result : Result Event StepFault) → result ≡ Err why
    → ((result ≡ Err NoSuchThread) ↔ (refusal_of world choice ≡ Some NoSuchThread))
    → ((result ≡ Err StepLimit) ↔ (refusal_of world choice ≡ Some StepLimit))
    → (result ≡ Err Memory → puts_out world choice ≡ true) → Refuses world choice why
refuses why world choice result is there left memory = grind arith

pub pass_fault : (why : StepFault) (session after : Session) (choice : Choice) (result : Result Event StepFault) → result ≡ Err why
    → ((result ≡ Err NoSuchThread) ↔ (refusal_of (world_of session.machine) choice ≡ Some NoSuchThread))
    → ((result ≡ Err StepLimit) ↔ (refusal_of (world_of session.machine) choice ≡ Some StepLimit))
    → (result ≡ Err Memory → puts_out (world_of session.machine) choice ≡ true) → after ≡ session
    → Faults session (choice ∷ []) why after
pass_fault why session after choice result is there left memory same = record {
  first = [];
  refused = choice;
  rest = [];
  all = refl;
  plays = tt;
  refuses = refuses why (world_of session.machine) choice result is there left memory;
  steps = same;
}

-- an effective step is counted
ready_by : (outcome : Option Outcome) (world : World)
    → ((played_by outcome world).world.steps ≡ world.steps → ⊥) → is_some outcome ≡ true
ready_by outcome world other = grind arith

-- where a thread stands after a step, by the session and by the definition
at_break_after : (session after : Session) (choice : Choice) (is : Bool) → IsSessionStep session choice after
    → is_at_break after.breaks (thread_at (scene_of after.machine.scene) choice.thread) ≡ is
    → is_at_break session.breaks (thread_at (played (world_of session.machine) choice).world.scene choice.thread) ≡ is
at_break_after session after choice is step at = grind arith

pub pass_break : (session after : Session) (choice : Choice) → refusal_of (world_of session.machine) choice ≡ None
    → IsSessionStep session choice after → (after.machine.steps ≡ session.machine.steps → ⊥)
    → is_at_break after.breaks (thread_at (scene_of after.machine.scene) choice.thread) ≡ true
    → Breaks session (choice ∷ []) after
pass_break session after choice accepted step counted at =
    let world = world_of session.machine in
    let ready : is_choice_ready world.program choice world.scene ≡ true =
    ready_by (outcome_of_choice world.program choice world.scene) world
    (λ same. counted (ap (λ (w : World). w.steps) step.world ∙ same)) in
    let here = is_at_break session.breaks (thread_at (played world choice).world.scene choice.thread) in
    record {
      first = [];
      last = choice;
      rest = [];
      all = refl;
      plays = tt;
      accepted = accepted;
      breaks = ap (λ r. r && here) ready ∙ at_break_after session after choice true step at;
      steps = (after, step, refl);
    }

pub pass_idle : (session after : Session) (choice : Choice) → refusal_of (world_of session.machine) choice ≡ None
    → IsSessionStep session choice after → after.machine.steps ≡ session.machine.steps → Ends session (choice ∷ []) after
pass_idle session after choice accepted step same = grind arith

pub pass_on : (session after : Session) (choice : Choice) → refusal_of (world_of session.machine) choice ≡ None
    → IsSessionStep session choice after
    → is_at_break after.breaks (thread_at (scene_of after.machine.scene) choice.thread) ≡ false
    → Ends session (choice ∷ []) after
pass_on session after choice accepted step at = search (rules, at_break_after)

-- what some steps leave
steps_world : (xs : List Choice) (before after : Session) → AreSteps before xs after
    → world_of after.machine ≡ world_after (world_of before.machine) xs
steps_world [] before after same = ap (λ (s : Session). world_of s.machine) same
steps_world (x ∷ xs) before after steps = grind (arith, steps_world xs steps.0 after steps.2)

steps_breaks : (xs : List Choice) (before after : Session) → AreSteps before xs after → after.breaks ≡ before.breaks
steps_breaks [] before after same = ap (λ (s : Session). s.breaks) same
steps_breaks (x ∷ xs) before after steps = grind (arith, steps_breaks xs steps.0 after steps.2)

-- what is said of the session after some steps is said of the choices
carried : (P : List Bool → World → Type 0) (xs : List Choice) (before after : Session) → AreSteps before xs after
    → P after.breaks (world_of after.machine) → P before.breaks (world_after (world_of before.machine) xs)
carried P xs before after steps p =
    subst (λ breaks. P breaks (world_after (world_of before.machine) xs)) (steps_breaks xs before after steps)
    (subst (P after.breaks) (steps_world xs before after steps) p)

steps-append : (xs ys : List Choice) (before middle after : Session) → AreSteps before xs middle → AreSteps middle ys after
    → AreSteps before (xs ++ ys) after
steps-append [] ys before middle after same steps = subst (λ s. AreSteps s ys after) same steps
steps-append (x ∷ xs) ys before middle after steps more = grind (arith, steps-append xs ys steps.0 middle after steps.2 more)

world_after-append : (xs ys : List Choice) (world : World) → world_after world (xs ++ ys) ≡ world_after (world_after world xs) ys
world_after-append [] ys world = refl
world_after-append (x ∷ xs) ys world = world_after-append xs ys (played world x).world

carried_on : (P : List Bool → World → Type 0) (xs ys : List Choice) (before after : Session) → AreSteps before xs after
    → P after.breaks (world_after (world_of after.machine) ys) → P before.breaks (world_after (world_of before.machine) (xs ++ ys))
carried_on P xs ys before after steps p =
    subst (P before.breaks) (sym (world_after-append xs ys (world_of before.machine)))
    (carried (λ breaks world. P breaks (world_after world ys)) xs before after steps p)

plays-append : (xs ys : List Choice) (breaks : List Bool) (world : World) → PlaysOn breaks world xs
    → PlaysOn breaks (world_after world xs) ys → PlaysOn breaks world (xs ++ ys)
plays-append [] ys breaks world plays more = more
plays-append (x ∷ xs) ys breaks world plays more = grind (arith, plays-append xs ys breaks (played world x).world plays.2 more)

-- some of the choices were played, the rest is still to come
pub record Continues (session now : Session) (whole rest : List Choice) : Type 0 where
  pub done : List Choice
  pub all : whole ≡ done ++ rest
  pub plays : PlaysOn session.breaks (world_of session.machine) done
  pub steps : AreSteps session done now

more_plays : (session now : Session) (done xs : List Choice) → PlaysOn session.breaks (world_of session.machine) done
    → AreSteps session done now → PlaysOn now.breaks (world_of now.machine) xs
    → PlaysOn session.breaks (world_of session.machine) (done ++ xs)
more_plays session now done xs plays steps more =
    plays-append done xs session.breaks (world_of session.machine) plays
    (carried (λ breaks world. PlaysOn breaks world xs) done session now steps more)

pub continues_next : (session now after : Session) (whole rest xs ys : List Choice) → rest ≡ xs ++ ys
    → Continues session now whole rest → Ends now xs after → Continues session after whole ys
continues_next session now after whole rest xs ys is on ends = grind (arith, append_assoc, more_plays, steps-append)

-- a list inside a list
inside : (whole done rest xs first : List Choice) (one : Choice) (more ys : List Choice) → whole ≡ done ++ rest → rest ≡ xs ++ ys
    → xs ≡ first ++ one ∷ more → whole ≡ (done ++ first) ++ one ∷ (more ++ ys)
inside whole done rest xs first one more ys all is parts = grind (arith, append_assoc)

pub continues_break : (session now after : Session) (whole rest xs ys : List Choice) → rest ≡ xs ++ ys
    → Continues session now whole rest → Breaks now xs after → Breaks session whole after
continues_break session now after whole rest xs ys is on at = record {
  first = on.done ++ at.first;
  last = at.last;
  rest = at.rest ++ ys;
  all = inside whole on.done rest xs at.first at.last at.rest ys on.all is at.all;
  plays = more_plays session now on.done at.first on.plays on.steps at.plays;
  accepted = carried_on (λ breaks world. refusal_of world at.last ≡ None) on.done at.first session now on.steps at.accepted;
  breaks = carried_on (λ breaks world. is_break breaks world at.last ≡ true) on.done at.first session now on.steps at.breaks;
  steps = subst (λ choices. AreSteps session choices after) (sym (append_assoc on.done at.first (at.last ∷ [])))
      (steps-append on.done (at.first ++ at.last ∷ []) session now after on.steps at.steps);
}

pub continues_fault : (why : StepFault) (session now after : Session) (whole rest xs ys : List Choice) → rest ≡ xs ++ ys
    → Continues session now whole rest → Faults now xs why after → Faults session whole why after
continues_fault why session now after whole rest xs ys is on at = record {
  first = on.done ++ at.first;
  refused = at.refused;
  rest = at.rest ++ ys;
  all = inside whole on.done rest xs at.first at.refused at.rest ys on.all is at.all;
  plays = more_plays session now on.done at.first on.plays on.steps at.plays;
  refuses = carried_on (λ breaks world. Refuses world at.refused why) on.done at.first session now on.steps at.refuses;
  steps = steps-append on.done at.first session now after on.steps at.steps;
}

-- each choice is counted
steps-choices : (xs : List Choice) (before after : Session) → AreSteps before xs after
    → after.machine.choices ≡ before.machine.choices + length xs
steps-choices [] before after same = grind arith
steps-choices (x ∷ xs) before after steps = grind (arith, steps-choices xs steps.0 after steps.2)

-- with the count of choices
pub stops_end : (session after : Session) (choices : List Choice) (n : ℕ) → n ≡ after.machine.choices - session.machine.choices
    → Ends session choices after → Stops session choices (stop.End n) after
stops_end session after choices n is ends = grind (arith, steps-choices)

pub stops_break : (session after : Session) (choices : List Choice) (n : ℕ) → n ≡ after.machine.choices - session.machine.choices
    → Breaks session choices after → Stops session choices (stop.Break n) after
stops_break session after choices n is at =
    (at, omega (arith, is, steps-choices (at.first ++ at.last ∷ []) session after at.steps, length-append at.first (at.last ∷ [])))

pub stops_fault : (why : StepFault) (session after : Session) (choices : List Choice) (n : ℕ)
    → n ≡ after.machine.choices - session.machine.choices → Faults session choices why after
    → Stops session choices (stop.Fault n why) after
stops_fault why session after choices n is at =
    (at, omega (arith, is, steps-choices at.first session after at.steps))

-- ---- one choice more behind choices that have stopped so

-- nothing stands before the only choice
before_one : (first rest : List Choice) (one choice : Choice) → choice ∷ [] ≡ first ++ one ∷ rest → length first ≡ 0
before_one first rest one choice is =
    let same : 1 ≡ length (first ++ one ∷ rest) = ap (λ (l : List Choice). length l) is in
    omega (arith, same, length-append first (one ∷ rest))

all_of : (session now : Session) (choices : List Choice) (choice : Choice) → Ends session choices now
    → Continues session now (choices ++ choice ∷ []) (choice ∷ [])
all_of session now choices choice ends = record { done = choices; all = refl; plays = ends.plays; steps = ends.steps }

pub one_more_ends : (session now after : Session) (choices : List Choice) (choice : Choice) (n : ℕ)
    → Stops session choices (stop.End n) now → Ends now (choice ∷ []) after
    → Stops session (choices ++ choice ∷ []) (stop.End (n + 1)) after
one_more_ends session now after choices choice n on ends = grind (arith, more_plays, steps-append, length-append)

pub one_more_breaks : (session now after : Session) (choices : List Choice) (choice : Choice) (n : ℕ)
    → Stops session choices (stop.End n) now → Breaks now (choice ∷ []) after
    → Stops session (choices ++ choice ∷ []) (stop.Break (n + 1)) after
unfolding continues_break all_of
one_more_breaks session now after choices choice n on at =
    let whole : Breaks session (choices ++ choice ∷ []) after =
    continues_break session now after (choices ++ choice ∷ []) (choice ∷ []) (choice ∷ []) [] refl
    (all_of session now choices choice on.0) at in
    let first : length whole.first ≡ length choices + length at.first = length-append choices at.first in
    (whole, omega (arith, on.1, first, before_one at.first at.rest at.last choice at.all))

pub one_more_faults : (why : StepFault) (session now after : Session) (choices : List Choice) (choice : Choice) (n : ℕ)
    → Stops session choices (stop.End n) now → Faults now (choice ∷ []) why after
    → Stops session (choices ++ choice ∷ []) (stop.Fault n why) after
unfolding continues_fault all_of
one_more_faults why session now after choices choice n on at =
    let whole : Faults session (choices ++ choice ∷ []) why after =
    continues_fault why session now after (choices ++ choice ∷ []) (choice ∷ []) (choice ∷ []) [] refl
    (all_of session now choices choice on.0) at in
    let first : length whole.first ≡ length choices + length at.first = length-append choices at.first in
    (whole, omega (arith, on.1, first, before_one at.first at.rest at.refused choice at.all))

-- what has stopped before the end stays there
pub one_more_stays : (how : Stop) (session now : Session) (choices : List Choice) (choice : Choice)
    → ((n : ℕ) → how ≢ stop.End n) → Stops session choices how now → Stops session (choices ++ choice ∷ []) how now
one_more_stays (stop.End n) session now choices choice other stops = absurd (other n refl)
one_more_stays (stop.Break n) session now choices choice other (at, is) = (
  record {
    first = at.first;
    last = at.last;
    rest = at.rest ++ choice ∷ [];
    all = ap (λ l. l ++ choice ∷ []) at.all ∙ append_assoc at.first (at.last ∷ at.rest) (choice ∷ []);
    plays = at.plays;
    accepted = at.accepted;
    breaks = at.breaks;
    steps = at.steps;
  },
  is,
)
one_more_stays (stop.Fault n why) session now choices choice other (at, is) = (
  record {
    first = at.first;
    refused = at.refused;
    rest = at.rest ++ choice ∷ [];
    all = ap (λ l. l ++ choice ∷ []) at.all ∙ append_assoc at.first (at.refused ∷ at.rest) (choice ∷ []);
    plays = at.plays;
    refuses = at.refuses;
    steps = at.steps;
  },
  is,
)

-- no choice is taken back
pub goes_counts : (result : Went) (session after : Session) (choices : List Choice) → Goes session choices result after
    → session.machine.choices ≤ after.machine.choices
goes_counts result session after choices ends = grind (arith, steps-choices)

-- the history of choices in a row
pub history_of_steps : (more : List Choice) (first : World) (choices : List Choice) (before after : Session)
    → IsHistory first choices before → AreSteps before more after → IsHistory first (choices ++ more) after
history_of_steps [] first choices before after history same = grind (arith, append-nil)
history_of_steps (choice ∷ more) first choices before after history steps =
    subst (λ l. IsHistory first l after) (append_assoc choices (choice ∷ []) more)
    (history_of_steps more first (choices ++ choice ∷ []) steps.0 after (history_on first choices choice before steps.0 history steps.1) steps.2)

-- a step that wasn't refused
pub step_unless : (refusal : Option StepFault) (session after : Session) (choice : Choice) → refusal ≡ None
    → IsSessionStep session choice after → IsStepUnless refusal session choice after
step_unless refusal session after choice is step = subst (λ r. IsStepUnless r session choice after) (sym is) step
