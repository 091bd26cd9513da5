-- Commands that are carried out.
use Rattle.std.proofs.Common.{◌≡◌, ◌+◌, ℕ, Bool, List, [], ◌∷◌, Option, None, Result, Ok, Err, append-nil, arith, subst, sym, IfErr, IsTrue, OnOk}
use Rattle.std.specs.Io.KnownBytes.{Appends}
use Rattle.machine_scene.specs.Scene.{thread_at}
use Rattle.thread_state.specs.declared.event.Event.{Event}
use Rattle.thread_machine.specs.{declared.choice.Choice.Choice, World.World, World.world_of}
use Rattle.thread_machine.specs.Step.{Played, played, refusal_of}
use Rattle.trace_text.specs.{Lines.event_text, Trace.lines_of}
use Rattle.debugger.specs.{declared.session.reply.CommandFault.CommandFault, Command.Step, Session.Session}
use Rattle.debugger.specs.Reply.{IsCarriedOut, IsStepUnless}
use Rattle.debugger.specs.declared.session.reply.CommandFault.TheVariants as fault

-- the line of a choice that was played
pub event_line : (world after : World) (choice : Choice) (event : Event) (step pc : ℕ) → refusal_of world choice ≡ None
    → (let both : Played = record { world = after; event = event } in both ≡ played world choice)
    → step ≡ world.choices + 1 → pc ≡ (thread_at world.scene choice.thread).pc
    → event_text step choice pc event ≡ lines_of world (choice ∷ [])
event_line world after choice event step pc accepted both step_is pc_is = grind (arith, append-nil)

-- a choice was played, or refused, and its line was written
pub stepped : (wants : Type 0) (result : Result (Unit {0}) CommandFault) (session after : Session) (choice : Choice) (text : List ℕ)
    (old new : Option (List ℕ)) (failed : Bool)
    → IsStepUnless (refusal_of (world_of session.machine) choice) session choice after
    → text ≡ lines_of (world_of session.machine) (choice ∷ []) → OnOk result (Appends old new text)
    → IfErr result (λ f. (f ≡ fault.Write) × IsTrue failed) → IsCarriedOut wants result session (Step choice) after old new failed
stepped wants (Ok done) session after choice text old new failed step is line never = (text, ((step, is), line))
stepped wants (Err f) session after choice text old new failed step is never write =
    subst (λ (f : CommandFault). IsCarriedOut {A = Unit {0}} wants (Err f) session (Step choice) after old new failed) (sym write.0)
    ((text, (step, is)), write.1)
