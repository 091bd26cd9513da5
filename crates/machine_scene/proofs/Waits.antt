-- Finished waits, and waits whose time runs out.
use Rattle.std.proofs.Common.{◌≡◌, ℕ, ℤ, pos, ◌+◌, ◌<◌, ◌==◌, ◌&&◌, not, Bool, false, length, refl, if◌then◌else◌, rules, is_some, Option, Some, None, length-set}
use Rattle.std.proofs.lemmas.List.{length-map}
use Rattle.instruction_table.specs.declared.{row.Row.Row, register.Reg.Reg}
use Rattle.instruction_table.specs.declared.row.Row.TheVariants.{Paaa, Pawaitt, Cawait, Cawaitt}
use Rattle.packed_phaser.specs.Flat.{view_of}
use Rattle.tier_tree.specs.Forest.{flat_at}
use Rattle.cyclic_barrier.specs.{declared.answer.WaitState.WaitState, Waits.wait_at, Barrier.leave, Barrier.interrupt}
use Rattle.cyclic_barrier.specs.declared.answer.WaitState.TheVariants as state
use Rattle.cyclic_barrier.proofs.CallLemmas.{has_wait-leave, has_wait-interrupt}
use Rattle.loader.specs.{Named.stops, Program.Program}
use Rattle.thread_state.specs.declared.status.Status.TheVariants as status
use Rattle.thread_state.specs.Thread.{Turn, turn_of_throw, turn_of_interruption, turn_of_answer}
use Rattle.machine_scene.specs.Scene.{Scene, Outcome, thread_at, barrier_at, with_barrier, outcome_of_turn}
use Rattle.machine_scene.specs.{PhaserRows.is_past, Sound.IsSound, Sound.is_wait_row}
use Rattle.machine_scene.specs.Waits.{outcome_of_view, outcome_of_awaited, outcome_of_phase_wait, outcome_of_release, outcome_of_barrier_wait, outcome_of_phase_timeout, outcome_of_barrier_timeout}
use Rattle.machine_scene.proofs.{Facts.AwaitsOn, Plain.KeepsSound, Plain.StandsAt, Plain.either, BarrierRows.seat}
use Rattle.machine_scene.proofs.Turns.{KeepsStack, throw_keeps, interruption_keeps, answer_keeps, sound_alone, sound_end}

-- a wait for the end of a phase
sound_awaited : (looks : Bool) (program : Program) (steps t p : ℕ) (scene : Scene) (row : Row) (into : Reg) (phase : ℤ)
    → StandsAt program steps t scene (status.AwaitsPhase phase) row → stops row ≡ false
    → KeepsSound program (steps + 1) (outcome_of_awaited looks into p phase t scene)
sound_awaited looks program steps t p scene row into phase stands goes =
    let before = thread_at scene t in
    let view = view_of (flat_at scene.phasers p) in
    let stopped : Option Outcome = Some (outcome_of_turn (turn_of_interruption before) t scene) in
    let none : Option Outcome = None in
    either (KeepsSound program (steps + 1)) (is_past p phase scene)
    {a = Some (outcome_of_view into p t scene)} {b = if looks && before.interrupted then stopped else none}
    (sound_alone program steps t scene (status.AwaitsPhase phase) row (turn_of_answer into view before) stands (AwaitsOn phase)
    (answer_keeps program before into view (stands.next goes)))
    (either (KeepsSound program (steps + 1)) (looks && before.interrupted) {a = stopped} {b = none}
    (sound_alone program steps t scene (status.AwaitsPhase phase) row (turn_of_interruption before) stands (AwaitsOn phase)
    (interruption_keeps program before stands.within)) tt)

pub sound_phase_wait : (row : Row) (phase : ℤ) (program : Program) (steps t : ℕ) (scene : Scene)
    → StandsAt program steps t scene (status.AwaitsPhase phase) row → KeepsSound program (steps + 1) (outcome_of_phase_wait row phase t scene)
sound_phase_wait (Paaa into p) phase program steps t scene stands =
    sound_awaited false program steps t p scene (Paaa into p) into phase stands refl
sound_phase_wait row phase program steps t scene stands = search (rules, sound_awaited)

-- a released thread takes its outcome
sound_left : (program : Program) (steps t b : ℕ) (index : ℤ) (scene : Scene) (row : Row) (turn : Turn)
    → StandsAt program steps t scene (status.AwaitsBarrier index) row → ((c : ℕ) → is_wait_row c row ≡ (b == c)) → b < length scene.barriers
    → KeepsStack program (thread_at scene t) turn
    → IsSound program (steps + 1) (outcome_of_turn turn t (with_barrier (leave t (barrier_at scene b)) b scene)).scene
sound_left program steps t b index scene row turn stands at here keeps = search (rules, sound_end, has_wait-leave, seat, length-set)

-- an interruption or an expiry breaks the barrier, and the thread leaves
sound_broke : (program : Program) (steps t b : ℕ) (index : ℤ) (scene : Scene) (row : Row) (turn : Turn)
    → StandsAt program steps t scene (status.AwaitsBarrier index) row → ((c : ℕ) → is_wait_row c row ≡ (b == c)) → b < length scene.barriers
    → KeepsStack program (thread_at scene t) turn
    → IsSound program (steps + 1) (outcome_of_turn turn t (with_barrier (interrupt t (barrier_at scene b)) b scene)).scene
sound_broke program steps t b index scene row turn stands at here keeps = search (rules, sound_end, has_wait-interrupt, seat, length-set, length-map)

sound_release : (wait : Option WaitState) (program : Program) (steps t b : ℕ) (index : ℤ) (scene : Scene) (row : Row) (into : Reg)
    → StandsAt program steps t scene (status.AwaitsBarrier index) row → stops row ≡ false → ((c : ℕ) → is_wait_row c row ≡ (b == c))
    → b < length scene.barriers → KeepsSound program (steps + 1) (outcome_of_release wait into index b t scene)
sound_release (Some state.Tripped) program steps t b index scene row into stands goes at here =
    let before = thread_at scene t in
    sound_left program steps t b index scene row (turn_of_answer into index before) stands at here
    (answer_keeps program before into index (stands.next goes))
sound_release (Some state.Broken) program steps t b index scene row into stands goes at here =
    let before = thread_at scene t in
    sound_left program steps t b index scene row (turn_of_throw (pos 4) before) stands at here (throw_keeps program before (pos 4) stands.within)
sound_release (Some state.Waiting) program steps t b index scene row into stands goes at here =
    let before = thread_at scene t in
    either (KeepsSound program (steps + 1)) (before.interrupted && not (is_some (barrier_at scene b).runner)) {b = None}
    (sound_broke program steps t b index scene row (turn_of_interruption before) stands at here (interruption_keeps program before stands.within)) tt
sound_release None program steps t b index scene row into stands goes at here = tt

pub sound_barrier_wait : (row : Row) (index : ℤ) (program : Program) (steps t : ℕ) (scene : Scene)
    → StandsAt program steps t scene (status.AwaitsBarrier index) row → KeepsSound program (steps + 1) (outcome_of_barrier_wait row index t scene)
sound_barrier_wait (Cawait into b) index program steps t scene stands =
    sound_release (wait_at (barrier_at scene b).waits t) program steps t b index scene (Cawait into b) into stands refl (λ c. refl) stands.named
sound_barrier_wait row index program steps t scene stands = search (rules, sound_release)

-- the time of a wait for a phase runs out
pub sound_phase_timeout : (row : Row) (phase : ℤ) (program : Program) (steps t : ℕ) (scene : Scene)
    → StandsAt program steps t scene (status.AwaitsPhase phase) row → KeepsSound program (steps + 1) (outcome_of_phase_timeout row t scene)
sound_phase_timeout (Pawaitt into p number time) phase program steps t scene stands =
    sound_alone program steps t scene (status.AwaitsPhase phase) (Pawaitt into p number time) (turn_of_throw (pos 5) (thread_at scene t)) stands
    (AwaitsOn phase) (throw_keeps program (thread_at scene t) (pos 5) stands.within)
sound_phase_timeout _ phase program steps t scene stands = tt

-- the time of a wait at a barrier runs out
pub sound_barrier_timeout : (row : Row) (index : ℤ) (program : Program) (steps t : ℕ) (scene : Scene)
    → StandsAt program steps t scene (status.AwaitsBarrier index) row → KeepsSound program (steps + 1) (outcome_of_barrier_timeout row t scene)
sound_barrier_timeout (Cawaitt into b time) index program steps t scene stands =
    let before = thread_at scene t in
    either (KeepsSound program (steps + 1)) (is_some (barrier_at scene b).runner) {a = None} tt
    (sound_broke program steps t b index scene (Cawaitt into b time) (turn_of_throw (pos 5) before) stands (λ c. refl) stands.named
    (throw_keeps program before (pos 5) stands.within))
sound_barrier_timeout _ index program steps t scene stands = tt
