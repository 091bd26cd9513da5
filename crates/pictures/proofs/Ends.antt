-- How a wait ends, by what its row and status say.
use Rattle.std.proofs.Common.{◌≡◌, ◌∙◌, ◌<◌, ◌≤◌, ℕ, ℤ, List, [], Bool, true, false, length, if◌then◌else◌, ◌&&◌, not, ap, sym, subst, refl, arith, IfSome, is_some, Option, Some, None, Result, is_ok, OnOk, ◌++◌, codes}
use Rattle.std.proofs.lemmas.{Bool.false≢true, List.get_or_past, List.get_or-replicate}
use Rattle.cyclic_barrier.specs.{Barrier.BarrierState, Barrier.fresh, Waits.wait_at}
use Rattle.instruction_table.specs.declared.row.Row.{Row}
use Rattle.loader.specs.Program.{Program, row_at}
use Rattle.machine_scene.specs.Outcomes.{is_ready, outcome_in, outcome_of}
use Rattle.machine_scene.specs.Scene.{Outcome, Scene, thread_at, barrier_at}
use Rattle.machine_scene.specs.Waits.{outcome_of_barrier_wait, outcome_of_phase_wait}
use Rattle.thread_state.specs.declared.status.Status.{Status}
use Rattle.thread_state.specs.declared.status.Status.TheVariants as status
use Rattle.thread_machine.specs.{Ready.can_expire, Ready.is_stuck, World.World}
use Rattle.pictures.specs.Picture.{end_text, outlook_text, thrown_in, waits}

-- the turn of a thread that has one ends its wait like this
abbrev Ends : Option ℤ → Option Outcome → Type 0
Ends thrown outcome = IfSome outcome (λ it. thrown ≡ thrown_in it.event.what)

-- what is said of an outcome that there is, and of none
abbrev told : Option Outcome → List ℕ → List ℕ
told outcome otherwise = elim outcome [ Some it ↦ end_text (thrown_in it.event.what) | None ↦ otherwise ]

told_some : (outcome : Option Outcome) (thrown : Option ℤ) (otherwise : List ℕ) → Ends thrown outcome → is_some outcome ≡ true
    → told outcome otherwise ≡ end_text thrown
told_some (Some it) thrown otherwise ends there = ap end_text (sym ends)
told_some None thrown otherwise ends there = absurd (false≢true there)

told_none : (outcome : Option Outcome) (otherwise : List ℕ) → is_some outcome ≡ false → told outcome otherwise ≡ otherwise
told_none (Some it) otherwise none = absurd (false≢true (sym none))
told_none None otherwise none = refl

-- by the status of a thread that waits
told_in : (s : Status) (row : Row) (t : ℕ) (program : Program) (scene : Scene) (thrown : Option ℤ) (otherwise : List ℕ)
    → waits s ≡ true
    → ((phase : ℤ) → s ≡ status.AwaitsPhase phase → Ends thrown (outcome_of_phase_wait row phase t scene))
    → ((index : ℤ) → Ends thrown (outcome_of_barrier_wait row index t scene))
    → is_some (outcome_in s row t program scene) ≡ true
    → told (outcome_in s row t program scene) otherwise ≡ end_text thrown
told_in (status.AwaitsPhase phase) row t program scene thrown otherwise waiting of_phase of_barrier ready =
    told_some (outcome_of_phase_wait row phase t scene) thrown otherwise (of_phase phase refl) ready
told_in (status.AwaitsBarrier index) row t program scene thrown otherwise waiting of_phase of_barrier ready =
    told_some (outcome_of_barrier_wait row index t scene) thrown otherwise (of_barrier index) ready
told_in status.Runs row t program scene thrown otherwise waiting of_phase of_barrier ready = absurd (false≢true waiting)
told_in (status.Throws code) row t program scene thrown otherwise waiting of_phase of_barrier ready = absurd (false≢true waiting)
told_in status.Ended row t program scene thrown otherwise waiting of_phase of_barrier ready = absurd (false≢true waiting)
told_in (status.Died code) row t program scene thrown otherwise waiting of_phase of_barrier ready = absurd (false≢true waiting)

-- what is said of a thread whose turn isn't ready
abbrev otherwise : World → ℕ → List ℕ
otherwise world t =
    if can_expire t world.program world.scene then codes ": can expire" else (if is_stuck world then codes ": stuck" else [])

-- a thread that waits at this row, and whose turn is ready
pub hope_ready : (world : World) (t : ℕ) (row : Row) (thrown : Option ℤ)
    → row ≡ row_at world.program.rows (thread_at world.scene t).pc
    → waits (thread_at world.scene t).status ≡ true
    → ((phase : ℤ) → (thread_at world.scene t).status ≡ status.AwaitsPhase phase
    → IfSome (outcome_of_phase_wait row phase t world.scene) (λ it. thrown ≡ thrown_in it.event.what))
    → ((index : ℤ) → IfSome (outcome_of_barrier_wait row index t world.scene) (λ it. thrown ≡ thrown_in it.event.what))
    → is_ready t world.program world.scene ≡ true
    → outlook_text world t ≡ end_text thrown
hope_ready world t row thrown is waiting of_phase of_barrier ready =
    let s = (thread_at world.scene t).status in
    subst (λ (r : Row). told (outcome_in s r t world.program world.scene) (otherwise world t) ≡ end_text thrown) is
    (told_in s row t world.program world.scene thrown (otherwise world t) waiting of_phase of_barrier
    (subst (λ (r : Row). is_some (outcome_in s r t world.program world.scene) ≡ true) (sym is) ready))

-- one whose turn isn't ready, but whose wait can expire
pub hope_expires : (world : World) (t : ℕ) → is_ready t world.program world.scene ≡ false
    → can_expire t world.program world.scene ≡ true → outlook_text world t ≡ codes ": can expire"
hope_expires world t idle expires =
    told_none (outcome_of t world.program world.scene) (otherwise world t) idle
    ∙ ap (λ (b : Bool). if b then codes ": can expire" else (if is_stuck world then codes ": stuck" else [])) expires

-- a barrier that isn't there has no waits
pub none_beyond : (scene : Scene) (b t : ℕ) → t < 64 → length scene.barriers ≤ b → None ≡ wait_at (barrier_at scene b).waits t
none_beyond scene b t few beyond =
    sym (ap (λ (barrier : BarrierState). wait_at barrier.waits t) (get_or_past scene.barriers b (fresh 1 false) beyond)
    ∙ get_or-replicate 64 t None None few)

-- how many have arrived is said of a phaser that is there, and whose phase hasn't ended
pub arrived_open : (there ended : Bool) (text arrived : List ℕ) → there ≡ true → ended ≡ false
    → (if there then (if ended then text else arrived) else []) ≡ arrived
arrived_open there ended text arrived is goes_on =
    ap (λ (b : Bool). if b then (if ended then text else arrived) else []) is
    ∙ ap (λ (b : Bool). if b then text else arrived) goes_on

pub behind_open : (there ended : Bool) (arrived : List ℕ) → there ≡ true → ended ≡ false
    → (if there && not ended then arrived else []) ≡ arrived
behind_open there ended arrived is goes_on =
    ap (λ (b : Bool). if b && not ended then arrived else []) is ∙ ap (λ (b : Bool). if not b then arrived else []) goes_on

-- what a text is after a push that succeeds
pub pushed : {A E : Type 0} (result : Result A E) (new old more : List ℕ) → new ≡ (if is_ok result then old ++ more else old)
    → OnOk result (new ≡ old ++ more)
pushed result new old more is = grind arith
