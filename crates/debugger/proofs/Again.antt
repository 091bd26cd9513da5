-- Choices that are played again from a first world, by a debugger that has no breakpoints.
use Rattle.std.proofs.Common.{◌≡◌, ◌∙◌, Bool, List, [], ◌∷◌, ◌++◌, Option, Some, None, refl, ap, sym, subst, arith}
use Rattle.thread_machine.specs.{World.World, World.StoredWorld, World.world_of, declared.choice.Choice.Choice}
use Rattle.thread_machine.specs.{declared.fault.StepFault.StepFault, Step.played, Step.refusal_of}
use Rattle.thread_machine.specs.Execution.{Execution, execution, execution_by}
use Rattle.thread_machine.specs.declared.fault.StepFault.TheVariants as fault
use Rattle.debugger.specs.{Session.Session, Session.world_after, Session.IsHistory, Moves.AreSteps}
use Rattle.debugger.specs.Go.{Breaks, Ends, Faults, Refuses}
use Rattle.debugger.proofs.Goes.{history_of_steps}

-- before the first choice
begun : (machine : StoredWorld) (session : Session) → session.machine ≡ machine → session.past ≡ []
    → IsHistory (world_of machine) [] session
begun machine session is none = grind arith

steps_kept : (choices : List Choice) (before after : Session) → AreSteps before choices after → after.kept ≡ before.kept
steps_kept [] before after same = ap (λ (s : Session). s.kept) same
steps_kept (choice ∷ choices) before after steps =
    steps_kept choices steps.0 after steps.2 ∙ ap (λ (s : Session). s.kept) steps.1.session

-- the breakpoints belong to no history
pub history_with_breaks : (first : World) (choices : List Choice) (session : Session) (breaks : List Bool)
    → IsHistory first choices session → IsHistory first choices (record session { breaks = breaks })
history_with_breaks first choices session breaks history =
    record { accepted = history.accepted; machine = history.machine; older = history.older; past = history.past }

pub again_history : (machine : StoredWorld) (choices : List Choice) (session after : Session) → session.machine ≡ machine
    → session.past ≡ [] → Ends session choices after → IsHistory (world_of machine) choices after
again_history machine choices session after is none ends =
    history_of_steps choices (world_of machine) [] session after (begun machine session is none) ends.steps

pub again_kept : (choices : List Choice) (session after : Session) → Ends session choices after → after.kept ≡ session.kept
again_kept choices session after ends = steps_kept choices session after ends.steps

-- there is no break
pub never_breaks : (choices : List Choice) (session after : Session) → session.breaks ≡ [] → Breaks session choices after → ⊥
never_breaks choices session after none at = grind arith

-- a choice that was accepted before is refused for memory alone
accepted_first : (refusal : Option StepFault) (world : World) (first : Choice) (next : World → Execution)
    → (execution_by refusal world first next).refusal ≡ None
    → (refusal ≡ None) × ((next (played world first).world).refusal ≡ None)
accepted_first (Some why) world first next accepted = absurd (cc accepted)
accepted_first None world first next accepted = (refl, accepted)

accepted_at : (before : List Choice) (world : World) (choice : Choice) (rest : List Choice)
    → (execution world (before ++ choice ∷ rest)).refusal ≡ None → refusal_of (world_after world before) choice ≡ None
accepted_at [] world choice rest accepted =
    (accepted_first (refusal_of world choice) world choice (λ after. execution after rest) accepted).0
accepted_at (first ∷ before) world choice rest accepted =
    accepted_at before (played world first).world choice rest
    (accepted_first (refusal_of world first) world first (λ after. execution after (before ++ choice ∷ rest)) accepted).1

memory_by : (why : StepFault) (world : World) (choice : Choice) → refusal_of world choice ≡ None → Refuses world choice why
    → why ≡ fault.Memory
memory_by fault.NoSuchThread world choice none is = absurd (cc (none, is))
memory_by fault.StepLimit world choice none is = absurd (cc (none, is))
memory_by fault.Memory world choice none is = refl

pub again_memory : (machine : StoredWorld) (choices : List Choice) (session after : Session) (why : StepFault)
    → session.machine ≡ machine → Faults session choices why after → (execution (world_of machine) choices).refusal ≡ None
    → why ≡ fault.Memory
again_memory machine choices session after why is at accepted =
    memory_by why (world_after (world_of session.machine) at.first) at.refused
    (accepted_at at.first (world_of session.machine) at.refused at.rest
    (subst (λ (l : List Choice). (execution (world_of session.machine) l).refusal ≡ None) at.all
    (subst (λ (m : StoredWorld). (execution (world_of m) choices).refusal ≡ None) (sym is) accepted)))
    at.refuses
