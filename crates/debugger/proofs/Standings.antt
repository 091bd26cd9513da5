-- What a command makes of the choices that stand.
use Rattle.std.proofs.Common.{◌≡◌, ◌∙◌, ℕ, List, [], ◌∷◌, ◌++◌, Option, Some, None, length, take, refl, ap, sym, subst, arith, append-nil, append_assoc}
use Rattle.std.proofs.Math.Seq.{take-append_seam}
use Rattle.thread_machine.specs.{declared.choice.Choice.Choice, declared.fault.StepFault.StepFault, Step.refusal_of}
use Rattle.thread_machine.specs.World.{World, StoredWorld, world_of}
use Rattle.schedule_reader.specs.Schedule.{choices_of}
use Rattle.debugger.specs.{declared.stop.Stop.Stop, Session.Session, Session.IsHistory, Session.back_to, Moves.AreSteps}
use Rattle.debugger.specs.{Go.Stops, Reply.Replies, Reply.IsStepUnless}
use Rattle.debugger.specs.Command.{Order, Step, Go, Back, Break, Clear, Print, Quit, Unknown}
use Rattle.debugger.specs.Standing.{Stands, with_step, without_last}
use Rattle.debugger.specs.declared.stop.Stop.TheVariants as stop
use Rattle.debugger.proofs.{Histories.history_on, Histories.history_back_cons, Goes.history_of_steps}

-- the choices that stand now
abbrev pub GoesOnWith : World → Session → List Choice → Order → Session → Type 0
GoesOnWith first before choices order after = (now : List Choice) × (Stands before choices order now × IsHistory first now after)

stepped : (refusal : Option StepFault) (first : World) (choices : List Choice) (before after : Session) (choice : Choice)
    → IsHistory first choices before → IsStepUnless refusal before choice after
    → IsHistory first (with_step refusal choices choice) after
stepped (Some fault) first choices before after choice history same = subst (IsHistory first choices) (sym same) history
stepped None first choices before after choice history step = history_on first choices choice before after history step

-- some of the choices of runs, from the first on
gone : (first : World) (choices all done rest : List Choice) (before after : Session) → all ≡ done ++ rest
    → IsHistory first choices before → AreSteps before done after
    → (n : ℕ) × IsHistory first (choices ++ take n all) after
gone first choices all done rest before after is history steps =
    let same : take (length done) all ≡ done = ap (take (length done)) is ∙ take-append_seam done rest in (
      length done,
      subst (λ (l : List Choice). IsHistory first (choices ++ l) after) (sym same)
          (history_of_steps done first choices before after history steps),
    )

went : (how : Stop) (first : World) (choices all : List Choice) (before after : Session)
    → IsHistory first choices before → Stops before all how after → (n : ℕ) × IsHistory first (choices ++ take n all) after
went (stop.End n) first choices all before after history (ends, is) =
    gone first choices all all [] before after (sym (append-nil all)) history ends.steps
went (stop.Break n) first choices all before after history (at, is) =
    gone first choices all (at.first ++ at.last ∷ []) at.rest before after
    (at.all ∙ sym (append_assoc at.first (at.last ∷ []) at.rest)) history at.steps
went (stop.Fault n why) first choices all before after history (at, is) =
    gone first choices all at.first (at.refused ∷ at.rest) before after at.all history at.steps

back : (past : List StoredWorld) (first : World) (choices : List Choice) (before : Session) → before.past ≡ past
    → IsHistory first choices before → IsHistory first (without_last past choices) (back_to past before)
back [] first choices before is history = history
back (world ∷ past) first choices before is history = history_back_cons first choices before world past is history

-- breakpoints are no part of a history
marked : (first : World) (choices : List Choice) (before after : Session) → after.machine ≡ before.machine → after.past ≡ before.past
    → IsHistory first choices before → IsHistory first choices after
marked first choices before after machine past history = grind arith

pub goes_on_with : (order : Order) (first : World) (choices : List Choice) (before after : Session) (text : List ℕ)
    → IsHistory first choices before → Replies before order after text → GoesOnWith first before choices order after
goes_on_with (Step choice) first choices before after text history replies =
    (_, (refl, stepped (refusal_of (world_of before.machine) choice) first choices before after choice history replies.0))
goes_on_with (Go runs) first choices before after text history (how, stops, is) =
    let on = went how first choices (choices_of runs) before after history stops in
    (choices ++ take on.0 (choices_of runs), ((on.0, refl), on.1))
goes_on_with Back first choices before after text history replies = (
  _,
  (
    refl,
    subst (IsHistory first (without_last before.past choices)) (sym replies.0)
        (back before.past first choices before refl history),
  ),
)
goes_on_with (Break row) first choices before after text history replies =
    (choices, (refl, marked first choices before after (ap (λ (s : Session). s.machine) replies.0) (ap (λ (s : Session). s.past) replies.0) history))
goes_on_with (Clear row) first choices before after text history replies =
    (choices, (refl, marked first choices before after (ap (λ (s : Session). s.machine) replies.0) (ap (λ (s : Session). s.past) replies.0) history))
goes_on_with Print first choices before after text history replies =
    (choices, (refl, subst (IsHistory first choices) (sym replies.0) history))
goes_on_with Quit first choices before after text history replies =
    (choices, (refl, subst (IsHistory first choices) (sym replies.0) history))
goes_on_with Unknown first choices before after text history replies =
    (choices, (refl, subst (IsHistory first choices) (sym replies.0) history))
