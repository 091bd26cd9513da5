-- What every outcome leaves to be undone, row by row.
use Rattle.std.proofs.Common.{◌≡◌, ◌∙◌, ℕ, ℤ, pos, ◌+◌, ◌<◌, ◌&&◌, Bool, true, false, List, length, ap, refl, arith, rules, is_some, Option, Some, None, slice_set, slice_index_or, set-set, get_or-set_same}
use Rattle.std.proofs.lemmas.List.{set-get_or}
use Rattle.instruction_table.specs.declared.{row.Row.Row, register.Reg.Reg, group.Group.Group, group.Group.TheVariants.Own}
use Rattle.instruction_table.specs.declared.row.Row.TheVariants.{Call, Intr, Pphase, Cawait, Creset, Cbroken, Cwaiting, Cparties, Pawaitt, Cawaitt}
use Rattle.tier_tree.specs.declared.{registered.Registered.Registered, arrived.Arrived.Arrived}
use Rattle.tier_tree.specs.{Forest.PhaserState, Forest.flat_at, Arrival.Arrives, Arrival.arrival, PhaseEnd.after_phase_end}
use Rattle.tier_tree.specs.declared.registered.Registered.TheVariants as registered
use Rattle.tier_tree.specs.declared.arrived.Arrived.TheVariants as arrived
use Rattle.cyclic_barrier.specs.Barrier.{BarrierState, reset, expire, end_action}
use Rattle.loader.specs.Program.{Program}
use Rattle.thread_state.specs.declared.event.What.TheVariants as what
use Rattle.thread_state.specs.declared.{frame.Frame.Frame, status.Status.Status}
use Rattle.thread_state.specs.Thread.{ThreadState, Turn, turn_of_throw, turn_of_interruption, turn_of_answer, turn_of_done, turn_of_halt, turn_of_call, turn_of_try, turn_of_endtry, turn_of_return, turn_of_advance, top_of, with_entry, popped, left_routine, is_full}
use Rattle.thread_state.specs.declared.frame.Frame.TheVariants as frame
use Rattle.machine_scene.specs.{declared.manner.Manner.Manner, declared.reach.Reach.Reach, OwnRows.outcome_of_own_row}
use Rattle.machine_scene.specs.Scene.{Scene, Outcome, no_thread, thread_at, barrier_at, routine_at, with_thread, with_phasers, with_barrier}
use Rattle.machine_scene.specs.CallRows.{outcome_of_routine_end, outcome_of_ret, outcome_of_call_row}
use Rattle.machine_scene.specs.{DataRows.outcome_of_data_row, GetterRows.outcome_of_getter_row}
use Rattle.machine_scene.specs.PhaserRows.{is_own_tree, has_routine, turn_of_arrival, unless_own, outcome_of_pending_end, outcome_of_arrived, outcome_of_arrival, outcome_of_registered, outcome_of_phaser_row}
use Rattle.machine_scene.specs.BarrierRows.{is_run_by, unless_busy, unless_runner, outcome_of_await_at, outcome_of_barrier_row}
use Rattle.machine_scene.specs.Waits.{outcome_of_phase_timeout, outcome_of_barrier_timeout}
use Rattle.machine_scene.specs.Outcomes.{outcome_in_group, outcome_in, timeout_in}
use Rattle.machine_scene.specs.Undo.{reach_of_ret, reach_of_row, reach_of_wait, reach_in}
use Rattle.machine_scene.specs.declared.reach.Reach.TheVariants as reach
use Rattle.machine_scene.proofs.{Plain.either, Turns.read_same}
use Rattle.machine_scene.proofs.Undone.{IsBack, GivesBack, BackIf, IsOwn, cells_back, barriers_back, back_same, back_push, back_pop, back_out, back_from, back_alone, back_tree, back_barrier, gate_back, threads_set}

-- turns of one thread

abbrev Undoes : ThreadState → Turn → Type 0
Undoes before turn = IsBack before turn.thread

same : (before : ThreadState) (turn : Turn) → turn.thread.stack ≡ before.stack → turn.thread.output ≡ before.output → Undoes before turn
same before turn stack output = back_same before turn.thread stack output

thrown : (before : ThreadState) (code : ℤ) → Undoes before (turn_of_throw code before)
thrown before code = same before (turn_of_throw code before) refl refl

answered : (before : ThreadState) (into : Reg) (value : ℤ) → Undoes before (turn_of_answer into value before)
answered before into value = same before (turn_of_answer into value before) refl refl

interruption : (before : ThreadState) → Undoes before (turn_of_interruption before)
interruption before = same before (turn_of_interruption before) refl refl

arrived_at : (manner : Manner) (phase : ℤ) (before : ThreadState) → Undoes before (turn_of_arrival manner phase before)
arrived_at manner phase before = grind (arith, answered, same)

halted : (before : ThreadState) → Undoes before (turn_of_halt before)
halted before = grind (arith, thrown, same)

called : (target : ℕ) (before : ThreadState) → Undoes before (turn_of_call target before)
called target before =
    let more : Turn = record { thread = with_entry (frame.Call (before.pc + 1)) target before; what = what.Done } in
    either (Undoes before) (is_full before) {a = turn_of_throw (pos 6) before} {b = more} (thrown before (pos 6))
    (back_push before more.thread (frame.Call (before.pc + 1)) refl refl)

tried : (handler : ℕ) (before : ThreadState) → Undoes before (turn_of_try handler before)
tried handler before =
    let more : Turn = record { thread = with_entry (frame.Handler handler) (before.pc + 1) before; what = what.Done } in
    either (Undoes before) (is_full before) {a = turn_of_throw (pos 6) before} {b = more} (thrown before (pos 6))
    (back_push before more.thread (frame.Handler handler) refl refl)

pops : (before : ThreadState) (turn : Turn) → turn.thread.stack ≡ (popped before).stack → turn.thread.output ≡ before.output → Undoes before turn
pops before turn stack output = back_pop before turn.thread stack output

ended_try : (top : Option Frame) (before : ThreadState) → Undoes before (turn_of_endtry top before)
ended_try (Some (frame.Handler row)) before = pops before (turn_of_done (popped before)) refl refl
ended_try _ before = thrown before (pos 7)

-- rows

-- a thread that the row names is there
abbrev pub NamesThread : Row → Scene → Type 0
NamesThread (Intr other) scene = other < length scene.threads
NamesThread _ scene = Unit {0}

alone : (t : ℕ) (scene : Scene) (after : ThreadState) → t < length scene.threads → IsBack (thread_at scene t) after
    → GivesBack reach.Nothing t scene (with_thread after t scene)
alone t scene after there back = back_alone reach.Nothing t scene after (λ first last. refl) there back

back_own_row : (row : Row) (top : Option Frame) (t : ℕ) (scene : Scene) → t < length scene.threads
    → BackIf (reach_of_row row top) t scene (outcome_of_own_row row t scene)
back_own_row row top t scene there = grind (arith, alone, halted)

-- thread t, back at its arrival, takes the answer of it
back_at_arrival : (reach : Reach) (t : ℕ) (scene mid : Scene) (left : ThreadState) (into : Reg) (value : ℤ) → IsOwn reach t
    → t < length scene.threads → left.stack ≡ (popped (thread_at scene t)).stack → left.output ≡ (thread_at scene t).output
    → mid.threads ≡ slice_set scene.threads t left
    → cells_back reach scene.cells mid.cells ≡ scene.cells → barriers_back reach scene.barriers mid.barriers ≡ scene.barriers
    → GivesBack reach t scene (with_thread (turn_of_answer into value (thread_at mid t)).thread t mid)
back_at_arrival reach t scene mid left into value is_own there stack output threads cells barriers =
    let turn = turn_of_answer into value (thread_at mid t) in
    let now : thread_at mid t ≡ left =
    ap (λ (ts : List ThreadState). slice_index_or ts t no_thread) threads ∙ get_or-set_same scene.threads t left no_thread there in
    back_from reach t scene mid turn.thread is_own there cells barriers
    (ap (λ (ts : List ThreadState). slice_set ts t turn.thread) threads ∙ set-set scene.threads t left turn.thread)
    (pops (thread_at scene t) turn (ap (λ (x : ThreadState). x.stack) now ∙ stack) (ap (λ (x : ThreadState). x.output) now ∙ output))

back_routine_end : (ended : Bool) (manner : Manner) (root : ℕ) (ends : Bool) (t : ℕ) (scene : Scene) (left : ThreadState)
    → t < length scene.threads → left.stack ≡ (popped (thread_at scene t)).stack → left.output ≡ (thread_at scene t).output
    → GivesBack (reach.Tree root) t scene (outcome_of_routine_end ended manner root ends t (with_thread left t scene)).scene
back_routine_end true manner root ends t scene left there stack output =
    back_at_arrival (reach.Tree root) t scene (with_thread left t scene) left manner.into _ (λ first last. refl) there stack output refl refl refl
back_routine_end false manner root ends t scene left there stack output =
    back_at_arrival (reach.Tree root) t scene (with_phasers (after_phase_end root ends scene.phasers) (with_thread left t scene)) left manner.into _
    (λ first last. refl) there stack output refl refl refl

back_ret : (top : Option Frame) (t : ℕ) (program : Program) (scene : Scene) → t < length scene.threads
    → GivesBack (reach_of_ret top) t scene (outcome_of_ret top t program scene).scene
back_ret None t program scene there = alone t scene _ there (thrown (thread_at scene t) (pos 7))
back_ret (Some (frame.Call row)) t program scene there =
    alone t scene _ there (pops (thread_at scene t) (turn_of_return row (thread_at scene t)) refl refl)
back_ret (Some (frame.Handler row)) t program scene there = alone t scene _ there (thrown (thread_at scene t) (pos 7))
back_ret (Some (frame.Advance root registers row)) t program scene there = grind (arith, back_routine_end)
back_ret (Some (frame.Action b registers row)) t program scene there =
    let left = left_routine registers row (thread_at scene t) in
    let gate = end_action true (barrier_at scene b) in
    back_at_arrival (reach.Barrier b) t scene (with_barrier gate b (with_thread left t scene)) left _ (pos 0) (λ first last. refl) there refl refl
    refl refl (gate_back b scene gate)

back_call_row : (row : Row) (t : ℕ) (program : Program) (scene : Scene) → t < length scene.threads
    → BackIf (reach_of_row row (top_of (thread_at scene t).stack)) t scene (outcome_of_call_row row t program scene)
back_call_row (Call target) t program scene there = alone t scene _ there (called target (thread_at scene t))
back_call_row row t program scene there = search (rules, alone, called, back_ret, tried, ended_try, thrown)

-- rows on cells and flags
back_data_row : (row : Row) (top : Option Frame) (t : ℕ) (scene : Scene) → NamesThread row scene → t < length scene.threads
    → BackIf (reach_of_row row top) t scene (outcome_of_data_row row t scene)
back_data_row _ top t scene named there =
    search (rules, alone, thrown, back_out, answered, back_from, set-set, set-get_or, same, back_same, read_same, threads_set)

back_getter_row : (row : Row) (top : Option Frame) (t : ℕ) (scene : Scene) → t < length scene.threads
    → BackIf (reach_of_row row top) t scene (outcome_of_getter_row row t scene)
back_getter_row (Pphase into p) top t scene there = alone t scene _ there (answered (thread_at scene t) into _)
back_getter_row row top t scene there = search (rules, alone, answered)

-- rows at phasers

at_tree : (p t : ℕ) (scene : Scene) (phasers : List PhaserState) (after : ThreadState) → t < length scene.threads → IsBack (thread_at scene t) after
    → GivesBack (reach.Tree p) t scene (with_thread after t (with_phasers phasers scene))
at_tree p t scene phasers after there back = back_tree p t scene phasers after there back

-- beside the tree
no_tree : (p t : ℕ) (scene : Scene) (after : ThreadState) → t < length scene.threads → IsBack (thread_at scene t) after
    → GivesBack (reach.Tree p) t scene (with_thread after t scene)
no_tree p t scene after there back = back_alone (reach.Tree p) t scene after (λ first last. refl) there back

back_registered : (answer : Registered) (into : Reg) (p t : ℕ) (scene : Scene) (phasers : List PhaserState) → t < length scene.threads
    → BackIf (reach.Tree p) t scene (outcome_of_registered answer into t (with_phasers phasers scene))
back_registered (registered.At phase) into p t scene phasers there = at_tree p t scene phasers _ there (answered (thread_at scene t) into phase)
back_registered answer into p t scene phasers there = search (rules, at_tree, answered, thrown)

back_turning : (answer : Option Bool) (manner : Manner) (p root : ℕ) (phase : ℤ) (t : ℕ) (program : Program) (scene : Scene) (phasers : List PhaserState)
    → t < length scene.threads
    → GivesBack (reach.Tree p) t scene (outcome_of_pending_end answer manner root phase t program (with_phasers phasers scene)).scene
back_turning (Some ends) manner p root phase t program scene phasers there =
    at_tree p t scene (after_phase_end root ends phasers) _ there (answered (thread_at scene t) manner.into _)
back_turning None manner p root phase t program scene phasers there =
    let turn = turn_of_advance root phase (flat_at phasers root).parties (routine_at program root) (thread_at scene t) in
    at_tree p t scene phasers turn.thread there
    (back_push (thread_at scene t) turn.thread (frame.Advance root (thread_at scene t).registers (thread_at scene t).pc) refl refl)

back_arrived : (answer : Arrived) (manner : Manner) (p t : ℕ) (program : Program) (scene : Scene) (phasers : List PhaserState)
    → t < length scene.threads
    → GivesBack (reach.Tree p) t scene (outcome_of_arrived answer manner t program (with_phasers phasers scene)).scene
back_arrived (arrived.At phase) manner p t program scene phasers there =
    at_tree p t scene phasers _ there (arrived_at manner phase (thread_at scene t))
back_arrived answer manner p t program scene phasers there = search (rules, at_tree, arrived_at, back_turning, answered, thrown)

back_arrival : (manner : Manner) (p t : ℕ) (program : Program) (scene : Scene) → t < length scene.threads
    → GivesBack (reach.Tree p) t scene (outcome_of_arrival manner p t program scene).scene
back_arrival manner p t program scene there =
    let all : Arrives = arrival p manner.leaves scene.phasers in
    either (λ (outcome : Outcome). GivesBack (reach.Tree p) t scene outcome.scene) (has_routine p scene && is_full (thread_at scene t))
    (no_tree p t scene _ there (thrown (thread_at scene t) (pos 6))) (back_arrived all.answer manner p t program scene all.phasers there)

-- unless the thread itself runs the tree's routine
back_unless_own : (reach : Reach) (p t : ℕ) (scene : Scene) (outcome : Option Outcome) → IsOwn reach t → t < length scene.threads
    → BackIf reach t scene outcome → BackIf reach t scene (unless_own p t scene outcome)
back_unless_own reach p t scene outcome is_own there back =
    either (BackIf reach t scene) (is_own_tree p (thread_at scene t) scene) {b = outcome}
    (back_alone reach t scene (turn_of_throw (pos 1) (thread_at scene t)).thread is_own there (thrown (thread_at scene t) (pos 1))) back

back_phaser_row : (row : Row) (top : Option Frame) (t : ℕ) (program : Program) (scene : Scene) → t < length scene.threads
    → BackIf (reach_of_row row top) t scene (outcome_of_phaser_row row t program scene)
back_phaser_row _ top t program scene there =
    grind (arith, back_unless_own, back_registered, back_arrival, at_tree, same, alone, answered, interruption, thrown)

-- rows at barriers

at_gate : (b t : ℕ) (scene : Scene) (gate : BarrierState) (after : ThreadState) → t < length scene.threads → IsBack (thread_at scene t) after
    → GivesBack (reach.Barrier b) t scene (with_thread after t (with_barrier gate b scene))
at_gate b t scene gate after there back = back_barrier b t scene gate after there back

-- beside the barrier
no_gate : (b t : ℕ) (scene : Scene) (after : ThreadState) → t < length scene.threads → IsBack (thread_at scene t) after
    → GivesBack (reach.Barrier b) t scene (with_thread after t scene)
no_gate b t scene after there back = back_alone (reach.Barrier b) t scene after (λ first last. refl) there back

back_await : (no_wait : Bool) (into : Reg) (b t : ℕ) (program : Program) (scene : Scene) → t < length scene.threads
    → BackIf (reach.Barrier b) t scene (outcome_of_await_at no_wait into b t program scene)
back_await no_wait into b t program scene there = search (rules, no_gate, thrown, at_gate, same, back_push, answered, interruption)

back_unless_busy : (reach : Reach) (b t : ℕ) (scene : Scene) (outcome : Option Outcome) → BackIf reach t scene outcome
    → BackIf reach t scene (unless_busy b t scene outcome)
back_unless_busy reach b t scene outcome back = grind arith

back_unless_runner : (reach : Reach) (b t : ℕ) (scene : Scene) (outcome : Option Outcome) → IsOwn reach t → t < length scene.threads
    → BackIf reach t scene outcome → BackIf reach t scene (unless_runner b t scene outcome)
back_unless_runner reach b t scene outcome is_own there back =
    either (BackIf reach t scene) (is_run_by t (barrier_at scene b).runner) {b = outcome}
    (back_alone reach t scene (turn_of_throw (pos 1) (thread_at scene t)).thread is_own there (thrown (thread_at scene t) (pos 1))) back

back_barrier_row : (row : Row) (top : Option Frame) (t : ℕ) (program : Program) (scene : Scene) → t < length scene.threads
    → BackIf (reach_of_row row top) t scene (outcome_of_barrier_row row t program scene)
back_barrier_row (Cawait into b) top t program scene there = grind (arith, back_unless_busy, back_unless_runner, back_await)
back_barrier_row (Cawaitt into b time) top t program scene there = grind (arith, back_unless_busy, back_unless_runner, back_await)
back_barrier_row (Creset b) top t program scene there =
    back_unless_busy (reach.Barrier b) b t scene _
    (back_unless_runner (reach.Barrier b) b t scene (Some _) (λ first last. refl) there
    (at_gate b t scene (reset (barrier_at scene b)) _ there
    (same (thread_at scene t) (turn_of_done (thread_at scene t)) refl refl)))
back_barrier_row (Cbroken into b) top t program scene there =
    back_unless_busy reach.Nothing b t scene (Some _) (alone t scene _ there (answered (thread_at scene t) into _))
back_barrier_row (Cwaiting into b) top t program scene there =
    back_unless_busy reach.Nothing b t scene _
    (back_unless_runner reach.Nothing b t scene (Some _) (λ first last. refl) there (alone t scene _ there (answered (thread_at scene t) into _)))
back_barrier_row (Cparties into b) top t program scene there = alone t scene _ there (answered (thread_at scene t) into _)
back_barrier_row _ top t program scene there = tt

-- turns of threads that don't run

back_phase_timeout : (row : Row) (t : ℕ) (scene : Scene) → t < length scene.threads
    → BackIf reach.Nothing t scene (outcome_of_phase_timeout row t scene)
back_phase_timeout (Pawaitt into p number time) t scene there = alone t scene _ there (thrown (thread_at scene t) (pos 5))
back_phase_timeout _ t scene there = tt

back_barrier_timeout : (row : Row) (t : ℕ) (scene : Scene) → t < length scene.threads
    → BackIf (reach_of_wait row) t scene (outcome_of_barrier_timeout row t scene)
back_barrier_timeout (Cawaitt into b time) t scene there =
    either (BackIf (reach.Barrier b) t scene) (is_some (barrier_at scene b).runner) {a = None} tt
    (at_gate b t scene (expire t (barrier_at scene b)) _ there (thrown (thread_at scene t) (pos 5)))
back_barrier_timeout _ t scene there = tt

-- all of them

back_in_group : (group : Group) (row : Row) (t : ℕ) (program : Program) (scene : Scene) → NamesThread row scene → t < length scene.threads
    → BackIf (reach_of_row row (top_of (thread_at scene t).stack)) t scene (outcome_in_group group row t program scene)
back_in_group Own row t program scene named there = back_own_row row (top_of (thread_at scene t).stack) t scene there
back_in_group group row t program scene named there = search (rules, back_own_row, back_call_row, back_data_row, back_phaser_row, back_getter_row, back_barrier_row)

-- the turn of thread t, by its status
pub back_in : (of : Status) (row : Row) (t : ℕ) (program : Program) (scene : Scene) → NamesThread row scene → t < length scene.threads
    → BackIf (reach_in of row (top_of (thread_at scene t).stack)) t scene (outcome_in of row t program scene)
back_in of row t program scene named there = grind (arith, back_in_group, at_gate, same, pops, alone, answered, interruption)

-- the expiry of its wait
pub back_timeout : (of : Status) (row : Row) (t : ℕ) (scene : Scene) → t < length scene.threads
    → BackIf (reach_in of row (top_of (thread_at scene t).stack)) t scene (timeout_in of row t scene)
back_timeout of row t scene there = grind (arith, back_phase_timeout, back_barrier_timeout)
