-- Which threads have a wait after each call.
use Rattle.std.specs.Prelude.{◌≡◌, ℕ, ◌<◌, Bool, not, ◌&&◌, ◌||◌, ◌==◌}
use Rattle.cyclic_barrier.specs.Barrier.{BarrierState, has_wait, is_wait, runner_after, enter_timed, end_action, leave, interrupt, expire, reset}

-- which threads have a wait after each call at this barrier, and which thread runs the action after an entry
pub record TellsWhoWaits (b : BarrierState) : Type 0 where
  pub enter : (thread u : ℕ) (interrupted no_wait : Bool) → thread < 64 →
      let entry = enter_timed thread interrupted no_wait b in
      has_wait u entry.barrier ≡ (has_wait u b || (is_wait entry.answer && (thread == u)))
  pub runner : (thread : ℕ) (interrupted no_wait : Bool) →
      let entry = enter_timed thread interrupted no_wait b in
      entry.barrier.runner ≡ runner_after thread entry.answer b.runner
  pub end_action : (returned : Bool) (u : ℕ) → has_wait u (end_action returned b) ≡ has_wait u b
  pub leave : (thread u : ℕ) → thread < 64 →
      has_wait u (leave thread b) ≡ (has_wait u b && not (thread == u))
  pub interrupt : (thread u : ℕ) → thread < 64 →
      has_wait u (interrupt thread b) ≡ (has_wait u b && not (thread == u))
  pub expire : (thread u : ℕ) → thread < 64 →
      has_wait u (expire thread b) ≡ (has_wait u b && not (thread == u))
  pub reset : (u : ℕ) → has_wait u (reset b) ≡ has_wait u b
