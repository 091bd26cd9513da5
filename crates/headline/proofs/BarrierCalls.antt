-- Each call at a barrier takes a past that leads to it one call on.
use Rattle.std.proofs.Common.{◌≡◌, ◌∙◌, ◌⊎◌, ℕ, ◌<◌, Bool, refl, sym, subst, length, Option, Some, None, inl, inr, ◌≢◌}
use Rattle.cyclic_barrier.specs.{declared.answer.WaitState.WaitState, Waits.wait_at, Barrier.BarrierState, Past.IsStateAfter}
use Rattle.cyclic_barrier.specs.PlainBarrier.{PlainBarrier, state_of}
use Rattle.cyclic_barrier.specs.declared.answer.WaitState.TheVariants as state
use Rattle.cyclic_barrier.specs.PlainBarrier as plain
use Rattle.cyclic_barrier.specs.Barrier as now
use Rattle.cyclic_barrier.proofs.PastLemmas.{stands-beside, stands-end_action, stands-interrupt, stands-leave, stands-reset}
use Rattle.thread_state.specs.declared.event.What.{What}
use Rattle.headline.specs.Pasts.{BarrierCall, GoesOn, MakesNone, Enter, EndAction, Leave, Interrupt, Expire, Reset}

-- each past of the one barrier stays or goes on by one of these calls to a past of the other
abbrev pub GoesTo : What → (PlainBarrier → BarrierCall → Type 0) → BarrierState → BarrierState → Type 0
GoesTo shown makes before after =
    (past : PlainBarrier) → IsStateAfter before past → (next : PlainBarrier) × (GoesOn shown (makes past) past next × IsStateAfter after next)

pub nowhere : (shown : What) (makes : PlainBarrier → BarrierCall → Type 0) (gate : BarrierState)
    → ((past : PlainBarrier) → IsStateAfter gate past → (call : BarrierCall) → makes past call → MakesNone shown) → GoesTo shown makes gate gate
nowhere shown makes gate none past stands = (past, (inl (refl, none past stands), stands))

pub goes_entered : (shown : What) (makes : PlainBarrier → BarrierCall → Type 0) (t : ℕ) (interrupted no_wait : Bool) (gate : BarrierState)
    → ((past : PlainBarrier) → makes past (Enter t interrupted no_wait)) → t < length gate.waits → wait_at gate.waits t ≡ None
    → GoesTo shown makes gate (now.enter_timed t interrupted no_wait gate).barrier
goes_entered shown makes t interrupted no_wait gate made there none past stands = (
  (plain.enter_timed t interrupted no_wait past).barrier,
  (
    inr (Enter t interrupted no_wait, (made past, refl)),
    (stands-beside gate.runner past.runner t interrupted no_wait gate past stands.runner there none stands).barrier,
  ),
)

pub goes_ended : (shown : What) (makes : PlainBarrier → BarrierCall → Type 0) (returned : Bool) (gate : BarrierState)
    → ((past : PlainBarrier) → makes past (EndAction returned)) → GoesTo shown makes gate (now.end_action returned gate)
goes_ended shown makes returned gate made past stands =
    (plain.end_action returned past, (inr (EndAction returned, (made past, refl)), stands-end_action returned gate past stands))

-- a wait that has ended, or hasn't
isnt_over : (wait : Option WaitState) → (wait ≡ Some state.Tripped) ⊎ (wait ≡ Some state.Broken) → wait ≢ Some state.Waiting
isnt_over wait (inl is) waits = cc (is, waits)
isnt_over wait (inr is) waits = cc (is, waits)

pub goes_left : (shown : What) (makes : PlainBarrier → BarrierCall → Type 0) (t : ℕ) (gate : BarrierState) → t < length gate.waits
    → (wait_at gate.waits t ≡ Some state.Tripped) ⊎ (wait_at gate.waits t ≡ Some state.Broken)
    → ((past : PlainBarrier) → (state_of t past ≡ Some state.Tripped) ⊎ (state_of t past ≡ Some state.Broken) → makes past (Leave t))
    → GoesTo shown makes gate (now.leave t gate)
goes_left shown makes t gate there over made past stands = (
  plain.leave t past,
  (
    inr (
      Leave t,
      (
        made past
            (subst (λ (wait : Option WaitState). (wait ≡ Some state.Tripped) ⊎ (wait ≡ Some state.Broken)) (sym (stands.waits t)) over),
        refl,
      ),
    ),
    stands-leave t gate past there (isnt_over (wait_at gate.waits t) over) stands,
  ),
)

pub goes_interrupted : (shown : What) (makes : PlainBarrier → BarrierCall → Type 0) (t : ℕ) (gate : BarrierState) → t < length gate.waits
    → wait_at gate.waits t ≡ Some state.Waiting → ((past : PlainBarrier) → state_of t past ≡ Some state.Waiting → makes past (Interrupt t))
    → GoesTo shown makes gate (now.interrupt t gate)
goes_interrupted shown makes t gate there waits made past stands =
    (plain.interrupt t past, (inr (Interrupt t, (made past (stands.waits t ∙ waits), refl)), stands-interrupt t gate past there stands))

pub goes_expired : (shown : What) (makes : PlainBarrier → BarrierCall → Type 0) (t : ℕ) (gate : BarrierState) → t < length gate.waits
    → wait_at gate.waits t ≡ Some state.Waiting → ((past : PlainBarrier) → state_of t past ≡ Some state.Waiting → makes past (Expire t))
    → GoesTo shown makes gate (now.expire t gate)
goes_expired shown makes t gate there waits made past stands =
    (plain.expire t past, (inr (Expire t, (made past (stands.waits t ∙ waits), refl)), stands-interrupt t gate past there stands))

pub goes_reset : (shown : What) (makes : PlainBarrier → BarrierCall → Type 0) (gate : BarrierState) → ((past : PlainBarrier) → makes past Reset)
    → GoesTo shown makes gate (now.reset gate)
goes_reset shown makes gate made past stands = (plain.reset past, (inr (Reset, (made past, refl)), stands-reset gate past stands))
