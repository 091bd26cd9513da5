-- The past of a barrier during a whole run: how each of its generations ended, and for which generation each thread waits.
use Rattle.std.specs.Prelude.{◌≡◌, ◌⊎◌, ℕ, ℤ, pos, not, int_lt, Bool, true, false, List, [], ◌∷◌, Option, Some, None}
use Rattle.instruction_table.specs.{declared.row.Row.Row, Registers.value_in}
use Rattle.instruction_table.specs.declared.row.Row.TheVariants.{Ret, Cawait, Cawaitt, Creset}
use Rattle.cyclic_barrier.specs.declared.answer.WaitState.TheVariants as state
use Rattle.cyclic_barrier.specs.PlainBarrier.{PlainBarrier, state_of, enter_timed, end_action, leave, interrupt, expire, reset}
use Rattle.cyclic_barrier.specs.Past.{IsStateAfter}
use Rattle.thread_state.specs.declared.frame.Frame.TheVariants as frame
use Rattle.thread_state.specs.declared.status.Status.TheVariants as status
use Rattle.thread_state.specs.{declared.event.What.What, Thread.ThreadState, Thread.top_of}
use Rattle.thread_state.specs.declared.event.What.TheVariants as what
use Rattle.machine_scene.specs.Scene.{barrier_at, thread_at}
use Rattle.thread_machine.specs.{declared.choice.Choice.Choice, declared.fault.StepFault.StepFault, World.World}
use Rattle.thread_machine.specs.Step.{played, refusal_of}
use Rattle.headline.specs.PhaseEnds.{row_of}

-- what may be done at a barrier, by a thread
pub data BarrierCall : Type 0 where
  Enter : ℕ → (interrupted no_wait : Bool) → BarrierCall
  EndAction : (returned : Bool) → BarrierCall
  Leave : ℕ → BarrierCall
  Interrupt : ℕ → BarrierCall
  Expire : ℕ → BarrierCall
  Reset : BarrierCall

-- what the call does to the barrier's past
abbrev pub after_call : BarrierCall → PlainBarrier → PlainBarrier
after_call (Enter thread interrupted no_wait) past = (enter_timed thread interrupted no_wait past).barrier
after_call (EndAction returned) past = end_action returned past
after_call (Leave thread) past = leave thread past
after_call (Interrupt thread) past = interrupt thread past
after_call (Expire thread) past = expire thread past
after_call Reset past = reset past

-- the top entry of the thread's stack is the action of barrier b
abbrev pub IsInAction : ℕ → ThreadState → Type 0
IsInAction b thread = (registers : List ℤ) × ((row : ℕ) × (top_of thread.stack ≡ Some (frame.Action b registers row)))

-- The call that a choice of thread t makes at barrier b, if it makes one there. A row makes the call that it names, at the
-- barrier that it names, with the thread's interrupted status, and without a wait if no time is left. `ret` ends the action
-- that it leaves. In a turn without a row, a thread breaks the barrier whose action it throws out of; it leaves a wait that has
-- ended; and it breaks a wait that hasn't, if it is interrupted. An expiry breaks a wait that hasn't ended, and makes no other
-- call. No other row and no other thread makes a call.
abbrev pub MakesBarrierCall : Option Row → (expiry : Bool) → ℕ → ThreadState → ℕ → PlainBarrier → BarrierCall → Type 0
MakesBarrierCall (Some (Cawait into c)) expiry t thread b past call = (c ≡ b) × (call ≡ Enter t thread.interrupted false)
MakesBarrierCall (Some (Cawaitt into c time)) expiry t thread b past call =
    (c ≡ b) × (call ≡ Enter t thread.interrupted (not (int_lt (pos 0) (value_in thread.registers time))))
MakesBarrierCall (Some (Creset c)) expiry t thread b past call = (c ≡ b) × (call ≡ Reset)
MakesBarrierCall (Some Ret) expiry t thread b past call = IsInAction b thread × (call ≡ EndAction true)
MakesBarrierCall (Some row) expiry t thread b past call = ⊥
MakesBarrierCall None false t thread b past (EndAction false) = IsInAction b thread × ((code : ℤ) × (thread.status ≡ status.Throws code))
MakesBarrierCall None false t thread b past (Leave u) =
    (u ≡ t) × ((state_of t past ≡ Some state.Tripped) ⊎ (state_of t past ≡ Some state.Broken))
MakesBarrierCall None false t thread b past (Interrupt u) = (u ≡ t) × ((thread.interrupted ≡ true) × (state_of t past ≡ Some state.Waiting))
MakesBarrierCall None true t thread b past (Expire u) = (u ≡ t) × (state_of t past ≡ Some state.Waiting)
MakesBarrierCall None expiry t thread b past call = ⊥

-- What a choice shows that makes no call though its row names one: it is idle, or its row throws before it calls. It throws
-- exception 1 if the thread itself runs the barrier's action, and 6 if its stack has no room for one.
abbrev pub IsHeldBack : What → Type 0
IsHeldBack what.Idle = Unit {0}
IsHeldBack (what.Throws code) = (code ≡ pos 1) ⊎ (code ≡ pos 6)
IsHeldBack _ = ⊥

-- the same as a record
pub record MakesNone (shown : What) : Type 0 where
  pub held : IsHeldBack shown

-- The past goes on by one of these calls. It stays as it is only if there is none, or the choice makes none.
abbrev pub GoesOn : What → (BarrierCall → Type 0) → PlainBarrier → PlainBarrier → Type 0
GoesOn shown makes past next =
    ((next ≡ past) × ((call : BarrierCall) → makes call → MakesNone shown))
    ⊎ ((call : BarrierCall) × (makes call × (next ≡ after_call call past)))

-- if the choice isn't refused
abbrev pub IfAccepted : Option StepFault → Type 0 → Type 0
IfAccepted None later = later
IfAccepted (Some fault) later = Unit {0}

-- From this past of barrier b on, a past continues choice by choice, up to the first that is refused, and each state is its
-- record (`IsStateAfter`): the state of a thread's wait is how the generation that it waits for ended, whatever came after.
abbrev pub RecordsOnePast : ℕ → PlainBarrier → World → List Choice → Type 0
RecordsOnePast b past now [] = IsStateAfter (barrier_at now.scene b) past
RecordsOnePast b past now (choice ∷ choices) =
    IsStateAfter (barrier_at now.scene b) past
    × IfAccepted (refusal_of now choice)
    ((next : PlainBarrier)
    × (GoesOn (played now choice).event.what (MakesBarrierCall (row_of now choice) choice.expiry choice.thread (thread_at now.scene choice.thread) b past) past next
    × RecordsOnePast b next (played now choice).world choices))
