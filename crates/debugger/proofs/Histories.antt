-- The session of a list of choices.
use Rattle.std.proofs.Common.{◌≡◌, ◌∙◌, ◌-◌, ℕ, zero, suc, List, [], ◌∷◌, ◌++◌, Option, Some, None, length, map, take, drop, refl, ap, sym, subst, arith, append_assoc}
use Rattle.thread_machine.specs.{World.World, World.StoredWorld, World.world_of, declared.choice.Choice.Choice}
use Rattle.thread_machine.specs.{declared.fault.StepFault.StepFault, Step.played, Step.refusal_of}
use Rattle.thread_machine.specs.Execution.{Execution, execution, execution_by, extended_by}
use Rattle.thread_machine.proofs.Executions.{execution-snoc}
use Rattle.debugger.specs.Session.{Session, went_back, back_to, world_after, worlds_before, IsHistory}
use Rattle.debugger.specs.Moves.{IsSessionStep}

-- an execution without a refusal leads where each choice's row does
world_by : (refusal : Option StepFault) (world : World) (first : Choice) (choices : List Choice)
    → (execution_by refusal world first (λ after. execution after choices)).refusal ≡ None
    → ((execution (played world first).world choices).refusal ≡ None → (execution (played world first).world choices).world
    ≡ world_after (played world first).world choices)
    → (execution_by refusal world first (λ after. execution after choices)).world ≡ world_after (played world first).world choices
world_by (Some fault) world first choices accepted rest = absurd (cc accepted)
world_by None world first choices accepted rest = rest accepted

world_is : (choices : List Choice) (world : World) → (execution world choices).refusal ≡ None
    → (execution world choices).world ≡ world_after world choices
world_is [] world accepted = refl
world_is (first ∷ choices) world accepted =
    world_by (refusal_of world first) world first choices accepted (world_is choices (played world first).world)

-- one accepted choice more
accepted_on : (first : World) (choices : List Choice) (choice : Choice) → (execution first choices).refusal ≡ None
    → refusal_of (execution first choices).world choice ≡ None
    → (let longer : Execution = execution first (choices ++ choice ∷ []) in
    (longer.refusal ≡ None) × (longer.world ≡ (played (execution first choices).world choice).world))
accepted_on first choices choice before now = grind (arith, execution-snoc)

-- one less
accepted_by : (before now : Option StepFault) (done : Execution) (choice : Choice) → done.refusal ≡ before
    → (extended_by before now done choice).refusal ≡ None → before ≡ None
accepted_by (Some fault) now done choice is accepted = sym is ∙ accepted
accepted_by None now done choice is accepted = refl

accepted_before : (first : World) (choices : List Choice) (last : Choice)
    → (execution first (choices ++ last ∷ [])).refusal ≡ None → (execution first choices).refusal ≡ None
accepted_before first choices last accepted =
    let done = execution first choices in
    accepted_by done.refusal (refusal_of done.world last) done last refl
    (ap (λ (e : Execution). e.refusal) (sym (execution-snoc choices first last)) ∙ accepted)

worlds_before-snoc : (choices : List Choice) (world : World) (choice : Choice)
    → worlds_before world (choices ++ choice ∷ []) ≡ world_after world choices ∷ worlds_before world choices
worlds_before-snoc [] world choice = refl
worlds_before-snoc (first ∷ choices) world choice = grind (arith, worlds_before-snoc choices (played world first).world choice)

shown-take-drop : (n : ℕ) (worlds : List StoredWorld) → map world_of (take n worlds) ++ map world_of (drop n worlds) ≡ map world_of worlds
shown-take-drop zero worlds = refl
shown-take-drop (suc n) [] = refl
shown-take-drop (suc n) (world ∷ worlds) = ap (λ ws. world_of world ∷ ws) (shown-take-drop n worlds)

-- one choice more
pub history_on : (first : World) (choices : List Choice) (choice : Choice) (before after : Session) → IsHistory first choices before
    → IsSessionStep before choice after → IsHistory first (choices ++ choice ∷ []) after
history_on first choices choice before after history step =
    let longer = before.machine ∷ before.past in
    let on = accepted_on first choices choice history.accepted
    (subst (λ (w : World). refusal_of w choice ≡ None) history.machine step.accepted) in
    record {
      accepted = on.0;
      machine = step.world ∙ ap (λ w. (played w choice).world) history.machine ∙ sym on.1;
      older = map world_of (drop before.kept longer) ++ history.older;
      past = ap (λ (s : Session). map world_of s.past ++ (map world_of (drop before.kept longer) ++ history.older)) step.session
          ∙ sym (append_assoc (map world_of (take before.kept longer)) (map world_of (drop before.kept longer)) history.older)
          ∙ ap (λ worlds. worlds ++ history.older) (shown-take-drop before.kept longer)
          ∙ ap (λ worlds. world_of before.machine ∷ worlds) history.past
          ∙ ap (λ w. w ∷ worlds_before first choices) (history.machine ∙ world_is choices first history.accepted)
          ∙ sym (worlds_before-snoc choices first choice);
    }

-- all choices but the last, and the last
last_of : (first : Choice) (choices : List Choice)
    → (last : Choice) × (first ∷ choices ≡ take (length (first ∷ choices) - 1) (first ∷ choices) ++ last ∷ [])
last_of first [] = (first, refl)
last_of first (second ∷ choices) =
    let later = last_of second choices in
    let n : length (first ∷ second ∷ choices) - 1 ≡ suc (length (second ∷ choices) - 1) = omega arith in
    (later.0, ap (λ l. first ∷ l) later.1 ∙ ap (λ k. take k (first ∷ second ∷ choices) ++ later.0 ∷ []) (sym n))

-- one choice less
history_back_snoc : (first : World) (choices all : List Choice) (last : Choice) (session : Session) (world : StoredWorld) (past : List StoredWorld)
    → session.past ≡ world ∷ past → all ≡ choices ++ last ∷ [] → IsHistory first all session
    → IsHistory first choices (back_to (world ∷ past) session)
history_back_snoc first choices all last session world past is snoc history =
    let accepted = accepted_before first choices last
    (subst (λ (l : List Choice). (execution first l).refusal ≡ None) snoc history.accepted) in
    let leads = world_is choices first accepted in
    grind (arith, worlds_before-snoc)

pub history_back_cons : (first : World) (choices : List Choice) (session : Session) (world : StoredWorld) (past : List StoredWorld)
    → session.past ≡ world ∷ past → IsHistory first choices session
    → IsHistory first (take (length choices - 1) choices) (back_to (world ∷ past) session)
history_back_cons first [] session world past is history = grind arith
history_back_cons first (choice ∷ choices) session world past is history =
    let last = last_of choice choices in
    history_back_snoc first (take (length (choice ∷ choices) - 1) (choice ∷ choices)) (choice ∷ choices) last.0 session world past is last.1 history

-- by what is kept
pub history_back : (first : World) (choices : List Choice) (session : Session) (world : StoredWorld) (past : List StoredWorld)
    → session.past ≡ world ∷ past → IsHistory first choices session
    → IsHistory first (take (length choices - 1) choices) (went_back session)
history_back first choices session world past is history = grind (arith, history_back_cons)
