-- Calls, handlers, `ret` and thrown exceptions.
use Rattle.std.proofs.Common.{◌≡◌, ℕ, ℤ, pos, suc, ◌+◌, ◌<◌, Bool, true, false, List, ◌∷◌, length, ap, refl, subst, arith, if◌then◌else◌, rules, ◌||◌, not, Option, Some, None, slice_set, slice_index_or, get_or-set_same}
use Rattle.std.specs.Ordering.{int_eq}
use Rattle.instruction_table.specs.{declared.row.Row.Row, declared.register.Reg.TheVariants.R0, Registers.value_in}
use Rattle.instruction_table.specs.declared.row.Row.TheVariants.{Call, Ret, Try, Endtry}
use Rattle.packed_phaser.specs.Flat.{view_of}
use Rattle.tier_tree.specs.{Forest.flat_at, PhaseEnd.after_phase_end}
use Rattle.tier_tree.proofs.Trees.{CanEnd}
use Rattle.cyclic_barrier.specs.Barrier.{end_action}
use Rattle.loader.specs.Program.{Program, row_at}
use Rattle.thread_state.specs.declared.event.What.TheVariants as what
use Rattle.thread_state.specs.declared.frame.Frame.{Frame}
use Rattle.thread_state.specs.Thread.{ThreadState, Turn, top_of, is_full, with_entry, left_routine, turn_of_throw, turn_of_answer, turn_of_call, turn_of_try, turn_of_endtry}
use Rattle.thread_state.specs.declared.frame.Frame.TheVariants as frame
use Rattle.thread_state.specs.declared.status.Status.TheVariants as status
use Rattle.machine_scene.specs.{declared.manner.Manner.Manner, Manner.manner_of, Unwinding.outcome_of_popped, Sound.IsSound}
use Rattle.machine_scene.specs.Scene.{Scene, no_thread, thread_at, barrier_at, with_thread, outcome_of_turn}
use Rattle.machine_scene.specs.CallRows.{outcome_of_routine_end, outcome_of_ret, outcome_of_call_row}
use Rattle.machine_scene.proofs.Facts.{RunsOn, ThrowsOn, DiesOn, top_named, advance_pending}
use Rattle.machine_scene.proofs.Plain.{KeepsSound, StandsAt, either, free_in, gains_call, gains_handler, sound_push, sound_pop}
use Rattle.machine_scene.proofs.{Routines.sound_turn_end, Barriers.sound_action_end, Turns.sound_alone, Turns.sound_throw}

sound_call : (program : Program) (steps t target : ℕ) (scene : Scene) → StandsAt program steps t scene status.Runs (Call target)
    → IsSound program (steps + 1) (outcome_of_turn (turn_of_call target (thread_at scene t)) t scene).scene
sound_call program steps t target scene stands =
    let before = thread_at scene t in
    let f : Frame = frame.Call (before.pc + 1) in
    let free = free_in program steps t scene status.Runs (Call target) stands RunsOn in
    let entered : Turn = record { thread = with_entry f target before; what = what.Done } in
    either (λ (turn : Turn). IsSound program (steps + 1) (outcome_of_turn turn t scene).scene) (is_full before) {a = turn_of_throw (pos 6) before} {b = entered}
    (sound_throw program steps t scene (Call target) (pos 6) stands)
    (sound_push program steps t scene entered.thread f stands.sound stands.there stands.named refl (stands.next refl)
    (gains_call before.stack (before.pc + 1)) free free)

sound_try : (program : Program) (steps t handler : ℕ) (scene : Scene) → StandsAt program steps t scene status.Runs (Try handler)
    → IsSound program (steps + 1) (outcome_of_turn (turn_of_try handler (thread_at scene t)) t scene).scene
sound_try program steps t handler scene stands =
    let before = thread_at scene t in
    let f : Frame = frame.Handler handler in
    let free = free_in program steps t scene status.Runs (Try handler) stands RunsOn in
    let entered : Turn = record { thread = with_entry f (before.pc + 1) before; what = what.Done } in
    either (λ (turn : Turn). IsSound program (steps + 1) (outcome_of_turn turn t scene).scene) (is_full before) {a = turn_of_throw (pos 6) before} {b = entered}
    (sound_throw program steps t scene (Try handler) (pos 6) stands)
    (sound_push program steps t scene entered.thread f stands.sound stands.there (stands.next refl) refl stands.named
    (gains_handler before.stack handler) free free)

sound_endtry : (top : Option Frame) (program : Program) (steps t : ℕ) (scene : Scene) → StandsAt program steps t scene status.Runs Endtry
    → top_of (thread_at scene t).stack ≡ top
    → IsSound program (steps + 1) (outcome_of_turn (turn_of_endtry top (thread_at scene t)) t scene).scene
sound_endtry (Some (frame.Handler row)) program steps t scene stands is =
    let free = free_in program steps t scene status.Runs Endtry stands RunsOn in
    sound_pop program steps t (frame.Handler row) scene _ stands.sound stands.there is refl (stands.next refl) free free
sound_endtry _ program steps t scene stands is = sound_throw program steps t scene Endtry (pos 7) stands

-- a thread that is written twice
set_twice : (xs : List ThreadState) (t : ℕ) (a b : ThreadState) → slice_set (slice_set xs t a) t b ≡ slice_set xs t b
set_twice (x ∷ xs) (suc t) a b = ap (λ (ts : List ThreadState). x ∷ ts) (set_twice xs t a b)
set_twice _ _ a b = refl

twice : (xs : List ThreadState) (t : ℕ) (a : ThreadState) (f : ThreadState → ThreadState) → t < length xs
    → slice_set xs t (f a) ≡ slice_set (slice_set xs t a) t (f (slice_index_or (slice_set xs t a) t no_thread))
twice xs t a f there = grind (arith, set_twice, get_or-set_same)

-- the root of the routine that is on top can be turned, unless it is terminated
pub can_turn_on_top : (program : Program) (steps t root row : ℕ) (registers : List ℤ) (scene : Scene) → IsSound program steps scene
    → steps < 2147483647 → t < length scene.threads → top_of (thread_at scene t).stack ≡ Some (frame.Advance root registers row)
    → (flat_at scene.phasers root).ended ≡ false → CanEnd root scene.phasers
can_turn_on_top program steps t root row registers scene sound few there is live =
    let named = top_named program steps scene t (frame.Advance root registers row) sound there is in
    let flat = flat_at scene.phasers root in
    let most = sound.trees.ends root in
    let pends : (flat.turned || flat.ended) ≡ true = advance_pending program steps scene t root row registers sound there is in
    grind arith

-- back at an arrival from its routine
sound_routine_end : (ended : Bool) (program : Program) (steps t root row : ℕ) (registers : List ℤ) (manner : Manner) (ends : Bool) (scene : Scene)
    → (flat_at scene.phasers root).ended ≡ ended → StandsAt program steps t scene status.Runs Ret
    → top_of (thread_at scene t).stack ≡ Some (frame.Advance root registers row)
    → IsSound program (steps + 1)
    (outcome_of_routine_end ended manner root ends t (with_thread (left_routine registers row (thread_at scene t)) t scene)).scene
sound_routine_end true program steps t root row registers manner ends scene end stands is =
    let named = top_named program steps scene t (frame.Advance root registers row) stands.sound stands.there is in
    let left = left_routine registers row (thread_at scene t) in
    let flat = flat_at scene.phasers root in
    let f : ThreadState → ThreadState = λ th. (turn_of_answer manner.into (if manner.waits then view_of flat else pos flat.phase) th).thread in
    subst (λ (ts : List ThreadState). IsSound program (steps + 1) (record scene { threads = ts })) (twice scene.threads t left f stands.there)
    (sound_pop program steps t (frame.Advance root registers row) scene (f left) stands.sound stands.there is refl named.0 RunsOn
    (free_in program steps t scene status.Runs Ret stands RunsOn))
sound_routine_end false program steps t root row registers manner ends scene end stands is =
    let named = top_named program steps scene t (frame.Advance root registers row) stands.sound stands.there is in
    let left = left_routine registers row (thread_at scene t) in
    let flat = flat_at scene.phasers root in
    let can = can_turn_on_top program steps t root row registers scene stands.sound stands.few stands.there is end in
    let after = after_phase_end root ends scene.phasers in
    let f : ThreadState → ThreadState = λ th. (turn_of_answer manner.into (if manner.waits then view_of (flat_at after root) else pos flat.phase) th).thread in
    subst (λ (ts : List ThreadState). IsSound program (steps + 1) (record scene { threads = ts; phasers = after })) (twice scene.threads t left f stands.there)
    (sound_turn_end program steps t root row registers ends scene (f left) stands.sound stands.there can is refl named.0 RunsOn
    (free_in program steps t scene status.Runs Ret stands RunsOn))

sound_ret : (top : Option Frame) (program : Program) (steps t : ℕ) (scene : Scene) → StandsAt program steps t scene status.Runs Ret
    → top_of (thread_at scene t).stack ≡ top → IsSound program (steps + 1) (outcome_of_ret top t program scene).scene
sound_ret (Some (frame.Call row)) program steps t scene stands is =
    let free = free_in program steps t scene status.Runs Ret stands RunsOn in
    sound_pop program steps t (frame.Call row) scene _ stands.sound stands.there is refl
    (top_named program steps scene t (frame.Call row) stands.sound stands.there is) free free
sound_ret (Some (frame.Advance root registers row)) program steps t scene stands is =
    sound_routine_end (flat_at scene.phasers root).ended program steps t root row registers (manner_of (row_at program.rows row))
    (not (int_eq (value_in (thread_at scene t).registers R0) (pos 0))) scene refl stands is
sound_ret (Some (frame.Action b registers row)) program steps t scene stands is =
    let named = top_named program steps scene t (frame.Action b registers row) stands.sound stands.there is in
    let left = left_routine registers row (thread_at scene t) in
    let f : ThreadState → ThreadState = λ th. (turn_of_answer (manner_of (row_at program.rows row)).into (pos 0) th).thread in
    subst (λ (ts : List ThreadState). IsSound program (steps + 1)
    (record scene { threads = ts; barriers = slice_set scene.barriers b (end_action true (barrier_at scene b)) }))
    (twice scene.threads t left f stands.there)
    (sound_action_end program steps t b row registers true scene (f left) stands.sound stands.there named.1 is refl named.0 RunsOn
    (free_in program steps t scene status.Runs Ret stands RunsOn))
sound_ret _ program steps t scene stands is = sound_throw program steps t scene Ret (pos 7) stands

pub sound_call_row : (row : Row) (program : Program) (steps t : ℕ) (scene : Scene) → StandsAt program steps t scene status.Runs row
    → KeepsSound program (steps + 1) (outcome_of_call_row row t program scene)
sound_call_row (Call target) program steps t scene stands = sound_call program steps t target scene stands
sound_call_row row program steps t scene stands = search (rules, sound_call, sound_ret, sound_try, sound_endtry, sound_throw)

-- one stack entry is popped while the thread throws
pub sound_popped : (top : Option Frame) (code : ℤ) (program : Program) (steps t : ℕ) (scene : Scene) (row : Row)
    → StandsAt program steps t scene (status.Throws code) row → top_of (thread_at scene t).stack ≡ top
    → IsSound program (steps + 1) (outcome_of_popped top code t scene).scene
sound_popped None code program steps t scene row stands is =
    rw is (sound_alone program steps t scene (status.Throws code) row
    (record { thread = record (thread_at scene t) { status = status.Died code }; what = what.Dies code }) stands (ThrowsOn code)
    (record { within = stands.within; same = refl; free = DiesOn code }))
sound_popped (Some (frame.Call to)) code program steps t scene row stands is =
    let free = free_in program steps t scene (status.Throws code) row stands (ThrowsOn code) in
    rw is (sound_pop program steps t (frame.Call to) scene _ stands.sound stands.there is refl stands.within free free)
sound_popped (Some (frame.Handler to)) code program steps t scene row stands is =
    let free = free_in program steps t scene (status.Throws code) row stands (ThrowsOn code) in
    rw is (sound_pop program steps t (frame.Handler to) scene _ stands.sound stands.there is refl
    (top_named program steps scene t (frame.Handler to) stands.sound stands.there is) RunsOn free)
sound_popped (Some (frame.Advance root registers to)) code program steps t scene row stands is =
    let free = free_in program steps t scene (status.Throws code) row stands (ThrowsOn code) in
    let named = top_named program steps scene t (frame.Advance root registers to) stands.sound stands.there is in
    let next = named.0 in
    rw is (sound_pop program steps t (frame.Advance root registers to) scene _ stands.sound stands.there is refl (omega (arith, next)) free free)
sound_popped (Some (frame.Action b registers to)) code program steps t scene row stands is =
    let free = free_in program steps t scene (status.Throws code) row stands (ThrowsOn code) in
    let named = top_named program steps scene t (frame.Action b registers to) stands.sound stands.there is in
    let next = named.0 in
    rw is (sound_action_end program steps t b to registers false scene _ stands.sound stands.there named.1 is refl (omega (arith, next)) free free)
