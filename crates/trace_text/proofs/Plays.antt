-- Choices that are played one list after another.
use Rattle.std.proofs.Common.{◌≡◌, ◌∙◌, ◌↔◌, ◌+◌, ◌<◌, ◌≤◌, ℕ, List, [], ◌∷◌, ◌++◌, Option, Some, None, true, refl, sym, ap, subst, append_assoc, append-nil, length, Result, Ok, Err, ◌-◌, replicate, drop, get_or, arith, option_map}
use Rattle.std.proofs.{lemmas.List.drop_all, KnownBytes.Appends-nil, KnownBytes.Appends-trans}
use Rattle.std.specs.Io.KnownBytes.{Appends}
use Rattle.thread_machine.specs.{declared.choice.Choice.Choice, declared.fault.StepFault.StepFault, World.World}
use Rattle.thread_machine.specs.declared.fault.StepFault.TheVariants.{NoSuchThread, StepLimit}
use Rattle.thread_machine.specs.Step.{Played, played, played_by, refusal_of}
use Rattle.thread_machine.specs.Execution.{execution, execution_by}
use Rattle.thread_state.specs.declared.event.Event.{Event}
use Rattle.machine_scene.specs.Scene.{Outcome, thread_at}
use Rattle.schedule_reader.specs.{declared.run.Run.Run, Schedule.choices_of}
use Rattle.trace_text.specs.{declared.play.Refused.Refused, Lines.event_text, Playing.PlaysTo}
use Rattle.trace_text.specs.Trace.{AppendsPartOf, Plays, lines_of, lines_by, refused_by, refused_of}
use Rattle.trace_text.proofs.Traces.{flat_map-drop}

-- why a choice was refused
abbrev why_of : Refused → StepFault
why_of refused = refused.why

-- after a first choice, where the others go on from the world that it leaves
goes_on_by : (refusal : Option StepFault) (world : World) (choice : Choice) (xs ys : List Choice)
    → ((after : World) → (execution after xs).refusal ≡ None
    → (lines_of after (xs ++ ys) ≡ lines_of after xs ++ lines_of (execution after xs).world ys)
    × ((execution after (xs ++ ys)).world ≡ (execution (execution after xs).world ys).world)
    × ((execution after (xs ++ ys)).refusal ≡ (execution (execution after xs).world ys).refusal))
    → (execution_by refusal world choice (λ after. execution after xs)).refusal ≡ None
    → (lines_by refusal world choice (λ after. lines_of after (xs ++ ys))
    ≡ lines_by refusal world choice (λ after. lines_of after xs)
    ++ lines_of (execution_by refusal world choice (λ after. execution after xs)).world ys)
    × ((execution_by refusal world choice (λ after. execution after (xs ++ ys))).world
    ≡ (execution (execution_by refusal world choice (λ after. execution after xs)).world ys).world)
    × ((execution_by refusal world choice (λ after. execution after (xs ++ ys))).refusal
    ≡ (execution (execution_by refusal world choice (λ after. execution after xs)).world ys).refusal)
goes_on_by refusal world choice xs ys rest none = grind (arith, append_assoc)

-- choices that are all accepted, and more after them
pub goes_on : (xs : List Choice) (world : World) (ys : List Choice) → (execution world xs).refusal ≡ None
    → (lines_of world (xs ++ ys) ≡ lines_of world xs ++ lines_of (execution world xs).world ys)
    × ((execution world (xs ++ ys)).world ≡ (execution (execution world xs).world ys).world)
    × ((execution world (xs ++ ys)).refusal ≡ (execution (execution world xs).world ys).refusal)
goes_on [] world ys none = (refl, refl, refl)
goes_on (x ∷ xs) world ys none =
    goes_on_by (refusal_of world x) world x xs ys (λ after. goes_on xs after ys) none

-- after a first choice, where one of the others may be refused
stops_by : (refusal : Option StepFault) (world : World) (choice : Choice) (xs ys : List Choice) (fault : StepFault)
    → ((after : World) → (execution after xs).refusal ≡ Some fault
    → (lines_of after (xs ++ ys) ≡ lines_of after xs)
    × ((execution after (xs ++ ys)).world ≡ (execution after xs).world)
    × ((execution after (xs ++ ys)).refusal ≡ Some fault))
    → (execution_by refusal world choice (λ after. execution after xs)).refusal ≡ Some fault
    → (lines_by refusal world choice (λ after. lines_of after (xs ++ ys))
    ≡ lines_by refusal world choice (λ after. lines_of after xs))
    × ((execution_by refusal world choice (λ after. execution after (xs ++ ys))).world
    ≡ (execution_by refusal world choice (λ after. execution after xs)).world)
    × ((execution_by refusal world choice (λ after. execution after (xs ++ ys))).refusal ≡ Some fault)
stops_by refusal world choice xs ys fault rest some = grind arith

-- choices of which one is refused, and more after them
pub stops : (xs : List Choice) (world : World) (ys : List Choice) (fault : StepFault)
    → (execution world xs).refusal ≡ Some fault
    → (lines_of world (xs ++ ys) ≡ lines_of world xs)
    × ((execution world (xs ++ ys)).world ≡ (execution world xs).world)
    × ((execution world (xs ++ ys)).refusal ≡ Some fault)
stops [] world ys fault some = let no : ⊥ = cc in absurd no
stops (x ∷ xs) world ys fault some =
    stops_by (refusal_of world x) world x xs ys fault (λ after. stops xs after ys fault) some

-- ---- which choice is refused

-- it is the one for whose reason the execution ends
refusal_by : (refusal : Option StepFault) (world : World) (choice : Choice) (xs : List Choice)
    → ((after : World) → (execution after xs).refusal ≡ option_map why_of (refused_of after xs))
    → (execution_by refusal world choice (λ after. execution after xs)).refusal
    ≡ option_map why_of (refused_by refusal world choice (λ after. refused_of after xs))
refusal_by refusal world choice xs rest = grind arith

pub refusal_is : (xs : List Choice) (world : World) → (execution world xs).refusal ≡ option_map why_of (refused_of world xs)
refusal_is [] world = refl
refusal_is (x ∷ xs) world = refusal_by (refusal_of world x) world x xs (λ after. refusal_is xs after)

none_refused : (xs : List Choice) (world : World) → None ≡ refused_of world xs → (execution world xs).refusal ≡ None
none_refused xs world none = refusal_is xs world ∙ ap (option_map why_of) (sym none)

some_refused : (xs : List Choice) (world : World) (refused : Refused) → Some refused ≡ refused_of world xs
    → (execution world xs).refusal ≡ Some refused.why
some_refused xs world refused some = refusal_is xs world ∙ ap (option_map why_of) (sym some)

-- in the world that it leaves
refused_there_by : (refusal : Option StepFault) (world : World) (choice : Choice) (xs : List Choice) (refused : Refused)
    → refusal_of world choice ≡ refusal
    → ((after : World) → Some refused ≡ refused_of after xs
    → refusal_of (execution after xs).world refused.choice ≡ Some refused.why)
    → Some refused ≡ refused_by refusal world choice (λ after. refused_of after xs)
    → refusal_of (execution_by refusal world choice (λ after. execution after xs)).world refused.choice ≡ Some refused.why
refused_there_by refusal world choice xs refused is rest some = grind arith

pub refused_there : (xs : List Choice) (world : World) (refused : Refused) → Some refused ≡ refused_of world xs
    → refusal_of (execution world xs).world refused.choice ≡ Some refused.why
refused_there [] world refused some = let no : ⊥ = cc in absurd no
refused_there (x ∷ xs) world refused some =
    refused_there_by (refusal_of world x) world x xs refused refl (λ after. refused_there xs after refused) some

-- with choices before it that are all accepted, or behind it
later_by : (refusal : Option StepFault) (world : World) (choice : Choice) (xs ys : List Choice)
    → ((after : World) → None ≡ refused_of after xs → refused_of after (xs ++ ys) ≡ refused_of (execution after xs).world ys)
    → None ≡ refused_by refusal world choice (λ after. refused_of after xs)
    → refused_by refusal world choice (λ after. refused_of after (xs ++ ys))
    ≡ refused_of (execution_by refusal world choice (λ after. execution after xs)).world ys
later_by refusal world choice xs ys rest none = grind arith

pub refused_later : (xs : List Choice) (world : World) (ys : List Choice) → None ≡ refused_of world xs
    → refused_of world (xs ++ ys) ≡ refused_of (execution world xs).world ys
refused_later [] world ys none = refl
refused_later (x ∷ xs) world ys none =
    later_by (refusal_of world x) world x xs ys (λ after. refused_later xs after ys) none

before_by : (refusal : Option StepFault) (world : World) (choice : Choice) (xs ys : List Choice) (refused : Refused)
    → ((after : World) → Some refused ≡ refused_of after xs → Some refused ≡ refused_of after (xs ++ ys))
    → Some refused ≡ refused_by refusal world choice (λ after. refused_of after xs)
    → Some refused ≡ refused_by refusal world choice (λ after. refused_of after (xs ++ ys))
before_by refusal world choice xs ys refused rest some = grind arith

pub refused_before : (xs : List Choice) (world : World) (ys : List Choice) (refused : Refused) → Some refused ≡ refused_of world xs
    → Some refused ≡ refused_of world (xs ++ ys)
refused_before [] world ys refused some = let no : ⊥ = cc in absurd no
refused_before (x ∷ xs) world ys refused some =
    before_by (refusal_of world x) world x xs ys refused (λ after. refused_before xs after ys refused) some

-- ---- choices that are played

-- no choices
pub Plays-nil : (world : World) (known : Option (List ℕ)) → PlaysTo world world [] None known known
Plays-nil world known = record { lines = Appends-nil known; world = refl; answer = refl }

-- after choices that were all accepted, more are played
pub Plays-append : (first middle last : World) (xs ys : List Choice) (refused : Option Refused) (old now new : Option (List ℕ))
    → PlaysTo first middle xs None old now → PlaysTo middle last ys refused now new → PlaysTo first last (xs ++ ys) refused old new
Plays-append first middle last xs ys refused old now new p q =
    let on = goes_on xs first ys (none_refused xs first p.answer) in
    let q' = subst (λ world. PlaysTo world last ys refused now new) p.world q in
    record {
      lines = subst (λ text. Appends old new text) (sym on.0) (Appends-trans old now new _ _ p.lines q'.lines);
      world = q'.world ∙ sym on.1;
      answer = q'.answer ∙ sym (refused_later xs first ys p.answer);
    }

-- after a refusal, nothing more is played
pub Plays-refused : (first last : World) (xs ys : List Choice) (refused : Refused) (old new : Option (List ℕ))
    → PlaysTo first last xs (Some refused) old new → PlaysTo first last (xs ++ ys) (Some refused) old new
Plays-refused first last xs ys refused old new p =
    let end = stops xs first ys refused.why (some_refused xs first refused p.answer) in
    record {
      lines = subst (λ text. Appends old new text) (sym end.0) p.lines;
      world = p.world ∙ sym end.1;
      answer = refused_before xs first ys refused p.answer;
    }

-- a choice that is no choice of a missing thread and has a step left
pub refusal_of-accepted : (event : Event) (world : World) (choice : Choice)
    → (let ok : Result Event StepFault = Ok event in
    (ok ≡ Err NoSuchThread) ↔ (refusal_of world choice ≡ Some NoSuchThread))
    → (let ok : Result Event StepFault = Ok event in
    (ok ≡ Err StepLimit) ↔ (refusal_of world choice ≡ Some StepLimit))
    → refusal_of world choice ≡ None
refusal_of-accepted event world choice there left = grind arith

-- each choice is counted
pub played-choices : (outcome : Option Outcome) (world : World) → (played_by outcome world).world.choices ≡ world.choices + 1
played-choices outcome world = grind arith

-- a choice that is accepted
pub Plays-played : (world after : World) (choice : Choice) (event : Event) (step pc : ℕ) (old new : Option (List ℕ))
    → refusal_of world choice ≡ None
    → (let both : Played = record { world = after; event = event } in both ≡ played world choice)
    → step ≡ after.choices
    → pc ≡ (thread_at world.scene choice.thread).pc
    → Appends old new (event_text step choice pc event)
    → Plays world after (choice ∷ []) true old new
Plays-played world after choice event step pc old new accepted both step_is pc_is line = grind (arith, played-choices, append-nil)

-- which is one that was played, where none was refused
pub Plays-one : (world after : World) (choice : Choice) (event : Event) (step pc : ℕ) (old new : Option (List ℕ))
    → refusal_of world choice ≡ None
    → (let both : Played = record { world = after; event = event } in both ≡ played world choice)
    → step ≡ after.choices
    → pc ≡ (thread_at world.scene choice.thread).pc
    → Appends old new (event_text step choice pc event)
    → PlaysTo world after (choice ∷ []) None old new
Plays-one world after choice event step pc old new accepted both step_is pc_is line = grind (arith, played-choices, append-nil)

-- nothing is a part of a text
pub Part-none : (old : Option (List ℕ)) (text : List ℕ) → AppendsPartOf old old text
Part-none old text = ([], (text, (refl, Appends-nil old)))

-- a part of a text's beginning is a part of the text
pub Part-more : (old new : Option (List ℕ)) (text more : List ℕ)
    → AppendsPartOf old new text → AppendsPartOf old new (text ++ more)
Part-more old new text more (part, (rest, (is, appends))) =
    (part, (rest ++ more, (ap (λ bytes. bytes ++ more) is ∙ append_assoc part rest more, appends)))

-- a whole text, and a part of what follows it
pub Part-after : (old now new : Option (List ℕ)) (text more : List ℕ)
    → Appends old now text → AppendsPartOf now new more → AppendsPartOf old new (text ++ more)
Part-after old now new text more whole (part, (rest, (is, appends))) = (
  text ++ part,
  (
    rest,
    (
      ap (λ bytes. text ++ bytes) is ∙ sym (append_assoc text part rest),
      Appends-trans old now new text part whole appends,
    ),
  ),
)

-- after choices that were all accepted, a part of the lines of others
pub Part-append : (first middle : World) (xs ys : List Choice) (old now new : Option (List ℕ))
    → PlaysTo first middle xs None old now → AppendsPartOf now new (lines_of middle ys)
    → AppendsPartOf old new (lines_of first (xs ++ ys))
Part-append first middle xs ys old now new p q =
    let on = goes_on xs first ys (none_refused xs first p.answer) in
    subst (λ text. AppendsPartOf old new text) (sym on.0)
    (Part-after old now new _ _ p.lines
    (subst (λ (world : World). AppendsPartOf now new (lines_of world ys)) p.world q))

-- by the refusal, if there is one
part_by : (first : World) (xs ys : List Choice) (old new : Option (List ℕ)) (refusal : Option StepFault)
    → (execution first xs).refusal ≡ refusal
    → AppendsPartOf old new (lines_of first xs) → AppendsPartOf old new (lines_of first (xs ++ ys))
part_by first xs ys old new None is p =
    subst (λ text. AppendsPartOf old new text) (sym (goes_on xs first ys is).0) (Part-more old new _ _ p)
part_by first xs ys old new (Some fault) is p =
    subst (λ text. AppendsPartOf old new text) (sym (stops xs first ys fault is).0) p

-- what is still to play completes the whole: whoever plays the rest has played it all, and a part of the rest's lines
-- makes a part of all lines
pub record Continues (first now : World) (whole rest : List Choice) (old known : Option (List ℕ)) : Type 0 where
  pub completed : (refused : Option Refused) (last : World) (new : Option (List ℕ)) → PlaysTo now last rest refused known new
      → PlaysTo first last whole refused old new
  pub partly : (new : Option (List ℕ)) → AppendsPartOf known new (lines_of now rest)
      → AppendsPartOf old new (lines_of first whole)

-- a part of the lines of what is played first
pub Continues-part : (first now : World) (whole rest xs ys : List Choice) (old known new : Option (List ℕ))
    → rest ≡ xs ++ ys → Continues first now whole rest old known
    → AppendsPartOf known new (lines_of now xs) → AppendsPartOf old new (lines_of first whole)
Continues-part first now whole rest xs ys old known new is on p =
    on.partly new (subst (λ choices. AppendsPartOf known new (lines_of now choices)) (sym is)
    (part_by now xs ys known new (execution now xs).refusal refl p))

-- one part more
pub Continues-next : (first now next : World) (whole rest xs ys : List Choice) (refused : Option Refused) (old known new : Option (List ℕ))
    → rest ≡ xs ++ ys → Continues first now whole rest old known
    → PlaysTo now next xs refused known new → refused ≡ None → Continues first next whole ys old new
Continues-next first now next whole rest xs ys refused old known new is on played none =
    let p = subst (λ r. PlaysTo now next xs r known new) none played in record {
      completed = λ later last end q.
          on.completed later last end (subst (λ choices. PlaysTo now last choices later known end) (sym is)
          (Plays-append now next last xs ys later known new end p q));
      partly = λ end q.
          on.partly end (subst (λ choices. AppendsPartOf known end (lines_of now choices)) (sym is)
          (Part-append now next xs ys known new end p q));
    }

-- a part with a refusal
pub Continues-refused : (first now last : World) (whole rest xs ys : List Choice) (answer : Option Refused) (refused : Refused)
    (old known new : Option (List ℕ)) → rest ≡ xs ++ ys → Continues first now whole rest old known
    → PlaysTo now last xs answer known new → answer ≡ Some refused → PlaysTo first last whole (Some refused) old new
Continues-refused first now last whole rest xs ys answer refused old known new is on played some =
    let p = subst (λ r. PlaysTo now last xs r known new) some played in
    on.completed (Some refused) last new (subst (λ choices. PlaysTo now last choices (Some refused) known new) (sym is)
    (Plays-refused now last xs ys refused known new p))

-- nothing more is to play
pub Continues-end : (first now : World) (whole rest : List Choice) (old known : Option (List ℕ)) → rest ≡ []
    → Continues first now whole rest old known → PlaysTo first now whole None old known
Continues-end first now whole rest old known is on =
    on.completed None now known (subst (λ choices. PlaysTo now now choices None known known) (sym is) (Plays-nil now known))

-- one of the same choices, and the others
pub replicate-first : (n : ℕ) (choice : Choice) → 0 < n
    → replicate n choice ≡ (choice ∷ []) ++ replicate (n - 1) choice
replicate-first n choice some = grind arith

-- the choices of one run, and those of the others
pub choices_of-drop : (runs : List Run) (i : ℕ) (d : Run) → i < length runs
    → choices_of (drop i runs)
    ≡ replicate (get_or runs i d).times (get_or runs i d).choice ++ choices_of (drop (i + 1) runs)
choices_of-drop runs i d there = flat_map-drop (λ (run : Run). replicate run.times run.choice) runs i d there

-- no run is left
pub choices_of-drop_all : (runs : List Run) (i : ℕ) → length runs ≤ i → choices_of (drop i runs) ≡ []
choices_of-drop_all runs i past = ap choices_of (drop_all i runs past)

-- a part of the lines of some choices is one of the lines of more
pub Part-longer : (first : World) (xs ys : List Choice) (old new : Option (List ℕ))
    → AppendsPartOf old new (lines_of first xs) → AppendsPartOf old new (lines_of first (xs ++ ys))
Part-longer first xs ys old new p = part_by first xs ys old new (execution first xs).refusal refl p

-- the whole text is a part
pub Part-whole : (old new : Option (List ℕ)) (text : List ℕ) → Appends old new text → AppendsPartOf old new text
Part-whole old new text whole = (text, ([], (sym (append-nil text), whole)))

-- and the number of the choices tells it
pub played-counted : (world after : World) (choice : Choice) (event : Event)
    → (let both : Played = record { world = after; event = event } in both ≡ played world choice)
    → after.choices ≡ world.choices + 1
played-counted world after choice event both = grind (arith, played-choices)
