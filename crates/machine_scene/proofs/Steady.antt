-- A step leaves every other thread as ready as it was, unless its event shows more than a turn of its own thread, its row
-- interrupts that thread, or the thread is about to register and the step changes a tree.
use Rattle.std.proofs.Common.{◌≡◌, ◌≢◌, ◌∙◌, ℕ, ℤ, pos, zero, suc, ◌&&◌, Bool, true, false, List, [], ◌∷◌, ap, refl, sym, arith, rules, nat_abs, int_lt, Option, Some, None, slice_set, slice_index_or, get_or-set_other}
use Rattle.instruction_table.specs.declared.{row.Row.Row, register.Reg.Reg, group.Group.Group}
use Rattle.instruction_table.specs.declared.row.Row.TheVariants.{Preg, Parr, Pdereg, Paaa, Cawait}
use Rattle.tier_tree.specs.{Stored.Stored, Stored.phasers_of, Registration.registration, Registration.after_registration}
use Rattle.cyclic_barrier.specs.{declared.answer.Entered.Entered, declared.answer.WaitState.WaitState, ThreadSet.has}
use Rattle.cyclic_barrier.specs.Waits.{wait_at}
use Rattle.cyclic_barrier.specs.Barrier.{BarrierState, Entry, fresh, enter_beside, enter_timed, leave}
use Rattle.cyclic_barrier.specs.declared.answer.Entered.TheVariants as entered
use Rattle.cyclic_barrier.specs.declared.answer.WaitState.TheVariants as state
use Rattle.loader.specs.Program.{Program}
use Rattle.thread_state.specs.declared.{event.Event.Event, frame.Frame.Frame, status.Status.Status}
use Rattle.thread_state.specs.Thread.{ThreadState, top_of, is_full, interrupted}
use Rattle.machine_scene.specs.{declared.manner.Manner.Manner, Manner.manner_of, Undo.PhasersWithin, Undo.reach_in}
use Rattle.machine_scene.specs.Scene.{Scene, StoredScene, Outcome, scene_of, thread_at, barrier_at, with_thread, with_phasers, with_barrier}
use Rattle.machine_scene.specs.PhaserRows.{is_own_tree, is_past, unless_own, outcome_of_registered, outcome_of_bulk, outcome_of_phaser_row, outcome_of_arrival}
use Rattle.machine_scene.specs.BarrierRows.{is_run_by, unless_busy, unless_runner, outcome_of_entered, outcome_of_await_at, outcome_of_barrier_row}
use Rattle.machine_scene.specs.Waits.{outcome_of_awaited, outcome_of_phase_wait, outcome_of_release, outcome_of_barrier_wait}
use Rattle.machine_scene.specs.Outcomes.{outcome_in_group, outcome_in, is_ready, timeout_in}
use Rattle.machine_scene.specs.ReadySet.{is_registering, KnowsReady, AreOthersReady, interrupts, changes_tree, concerns_others, changes_all}
use Rattle.machine_scene.proofs.{Plain.either, ReadyThreads.ready_as_listed}
use Rattle.machine_scene.proofs.Standings.{KeepsStandings, registration-standings, arrival-standings}

-- what the turn of thread u is ready by is the same, but for what a registration looks at
record Alike (u : ℕ) (scene after : Scene) : Type 0 where
  pub thread : thread_at after u ≡ thread_at scene u
  pub standings : KeepsStandings scene.phasers after.phasers
  pub waits : (b : ℕ) → wait_at (barrier_at after b).waits u ≡ wait_at (barrier_at scene b).waits u
  pub runners : (b : ℕ) → (barrier_at after b).runner ≡ (barrier_at scene b).runner

-- so the turn is ready just where it was
ready_same : (u : ℕ) (program : Program) (scene after : Scene) → Alike u scene after
    → (is_registering u program scene ≡ true → after.phasers ≡ scene.phasers) → is_ready u program after ≡ is_ready u program scene
ready_same u program scene after alike held = grind (arith, ready_as_listed)

registering_same : (u : ℕ) (program : Program) (scene after : Scene) → thread_at after u ≡ thread_at scene u
    → is_registering u program after ≡ is_registering u program scene
registering_same u program scene after same = grind arith

-- a step of thread t at this row that leaves to all others but those it interrupts what they are ready by
record Leaves (t : ℕ) (row : Row) (scene after : Scene) : Type 0 where
  pub threads : (u : ℕ) → u ≢ t → interrupts u row ≡ false → thread_at after u ≡ thread_at scene u
  pub standings : KeepsStandings scene.phasers after.phasers
  pub waits : (b u : ℕ) → u ≢ t → wait_at (barrier_at after b).waits u ≡ wait_at (barrier_at scene b).waits u
  pub runners : (b : ℕ) → (barrier_at after b).runner ≡ (barrier_at scene b).runner

-- where there is an outcome whose event isn't loud
abbrev CalmIf : ℕ → Row → Scene → Option Outcome → Type 0
CalmIf t row scene None = Unit {0}
CalmIf t row scene (Some outcome) = concerns_others outcome.event ≡ false → Leaves t row scene outcome.scene

-- where there is one that changes nothing for all others
abbrev QuietIf : ℕ → Row → Scene → Option Outcome → Type 0
QuietIf t row scene None = Unit {0}
QuietIf t row scene (Some outcome) = changes_all row outcome.event ≡ false → Leaves t row scene outcome.scene

quiet_if : (t : ℕ) (row : Row) (scene : Scene) (outcome : Option Outcome) → CalmIf t row scene outcome → QuietIf t row scene outcome
quiet_if t row scene outcome calm = grind arith

-- another state of thread t, from a scene in which no other thread but one that is interrupted may be another already
turned : (t : ℕ) (row : Row) (scene mid : Scene) (after : ThreadState)
    → ((u : ℕ) → u ≢ t → interrupts u row ≡ false → thread_at mid u ≡ thread_at scene u) → KeepsStandings scene.phasers mid.phasers
    → ((b u : ℕ) → u ≢ t → wait_at (barrier_at mid b).waits u ≡ wait_at (barrier_at scene b).waits u)
    → ((b : ℕ) → (barrier_at mid b).runner ≡ (barrier_at scene b).runner) → Leaves t row scene (with_thread after t mid)
turned t row scene mid after threads standings waits runners = grind (arith, get_or-set_other)

still : (t : ℕ) (row : Row) (scene : Scene) (after : ThreadState) → Leaves t row scene (with_thread after t scene)
still t row scene after = turned t row scene scene after (λ u apart free. refl) (λ id. refl) (λ b u apart. refl) (λ b. refl)

-- a barrier at which the others' waits are the same, and who runs its action
abbrev KeepsOthers : ℕ → BarrierState → BarrierState → Type 0
KeepsOthers t before after =
    ((u : ℕ) → u ≢ t → wait_at after.waits u ≡ wait_at before.waits u) × (after.runner ≡ before.runner)

put : (P : BarrierState → BarrierState → Type 0) → ((x : BarrierState) → P x x) → (barriers : List BarrierState) (b : ℕ) (new : BarrierState)
    → P (slice_index_or barriers b (fresh 1 false)) new → (c : ℕ)
    → P (slice_index_or barriers c (fresh 1 false)) (slice_index_or (slice_set barriers b new) c (fresh 1 false))
put P same [] b new is c = same (fresh 1 false)
put P same (x ∷ barriers) zero new is zero = is
put P same (x ∷ barriers) zero new is (suc c) = same (slice_index_or barriers c (fresh 1 false))
put P same (x ∷ barriers) (suc b) new is zero = same x
put P same (x ∷ barriers) (suc b) new is (suc c) = put P same barriers b new is c

at_gate : (b t : ℕ) (row : Row) (scene : Scene) (gate : BarrierState) (after : ThreadState) → KeepsOthers t (barrier_at scene b) gate
    → Leaves t row scene (with_thread after t (with_barrier gate b scene))
at_gate b t row scene gate after keeps =
    let each = put (KeepsOthers t) (λ x. (λ u apart. refl, refl)) scene.barriers b gate keeps in
    turned t row scene (with_barrier gate b scene) after (λ u apart free. refl) (λ id. refl) (λ c. (each c).0) (λ c. (each c).1)

-- rows

-- rows at phasers

calm_registration : (into : Reg) (p count t : ℕ) (row : Row) (scene : Scene)
    → CalmIf t row scene (outcome_of_registered (registration p count scene.phasers) into t
    (with_phasers (after_registration p count scene.phasers) scene))
calm_registration into p count t row scene = search (rules, registration-standings)

calm_bulk : (into : Reg) (p : ℕ) (count : ℤ) (t : ℕ) (row : Row) (scene : Scene)
    → CalmIf t row scene (outcome_of_bulk into p count t scene)
calm_bulk into p count t row scene =
    either (CalmIf t row scene) (int_lt count (pos 0)) (λ calm. still t row scene _) (calm_registration into p (nat_abs count) t row scene)

-- unless the thread itself runs the tree's routine
calm_unless_own : (p t : ℕ) (row : Row) (scene : Scene) (outcome : Option Outcome) → CalmIf t row scene outcome
    → CalmIf t row scene (unless_own p t scene outcome)
calm_unless_own p t row scene outcome calm =
    either (CalmIf t row scene) (is_own_tree p (thread_at scene t) scene) {b = outcome} (λ quiet. still t row scene _) calm

calm_arrival : (manner : Manner) (p t : ℕ) (row : Row) (program : Program) (scene : Scene)
    → CalmIf t row scene (Some (outcome_of_arrival manner p t program scene))
calm_arrival manner p t row program scene = search (rules, arrival-standings, still)

quiet_phaser_row : (row : Row) (t : ℕ) (program : Program) (scene : Scene) → QuietIf t row scene (outcome_of_phaser_row row t program scene)
quiet_phaser_row (Preg into p) t program scene =
    quiet_if t (Preg into p) scene _ (calm_unless_own p t (Preg into p) scene _ (calm_registration into p 1 t (Preg into p) scene))
quiet_phaser_row (Parr into p) t program scene =
    quiet_if t (Parr into p) scene _ (calm_unless_own p t (Parr into p) scene _
    (calm_arrival (manner_of (Parr into p)) p t (Parr into p) program scene))
quiet_phaser_row (Pdereg into p) t program scene =
    quiet_if t (Pdereg into p) scene _ (calm_unless_own p t (Pdereg into p) scene _
    (calm_arrival (manner_of (Pdereg into p)) p t (Pdereg into p) program scene))
quiet_phaser_row (Paaa into p) t program scene =
    quiet_if t (Paaa into p) scene _ (calm_unless_own p t (Paaa into p) scene _
    (calm_arrival (manner_of (Paaa into p)) p t (Paaa into p) program scene))
quiet_phaser_row row t program scene = search (rules, quiet_if, calm_unless_own, calm_bulk, still)

-- rows at barriers

-- a quiet entry keeps the others' waits, and who runs the action
abbrev KeepsIf : Entered → ℕ → BarrierState → BarrierState → Type 0
KeepsIf (entered.Wait index) t before after = KeepsOthers t before after
KeepsIf entered.Broken t before after = KeepsOthers t before after
KeepsIf entered.Own t before after = KeepsOthers t before after
KeepsIf _ t before after = Unit {0}

set_else : (t : ℕ) (gate : BarrierState) (wait : Option WaitState) → KeepsOthers t gate (record gate { waits = slice_set gate.waits t wait })
set_else t gate wait = (λ u apart. get_or-set_other gate.waits t u wait None apart, refl)

beside_keeps : (runner : Option ℕ) (t : ℕ) (interrupted no_wait : Bool) (gate : BarrierState)
    → KeepsIf (enter_beside runner t interrupted no_wait gate).answer t gate (enter_beside runner t interrupted no_wait gate).barrier
beside_keeps runner t interrupted no_wait gate = search (rules, set_else)

calm_entered : (answer : Entered) (into : Reg) (b t : ℕ) (row : Row) (program : Program) (scene : Scene) (gate : BarrierState)
    → KeepsIf answer t (barrier_at scene b) gate
    → CalmIf t row scene (outcome_of_entered answer into b t program (with_barrier gate b scene))
calm_entered (entered.Wait index) into b t row program scene gate keeps = λ calm. at_gate b t row scene gate _ keeps
calm_entered answer into b t row program scene gate keeps = search (rules, at_gate)

calm_await : (no_wait : Bool) (into : Reg) (b t : ℕ) (row : Row) (program : Program) (scene : Scene)
    → CalmIf t row scene (outcome_of_await_at no_wait into b t program scene)
calm_await no_wait into b t row program scene =
    let gate = barrier_at scene b in
    let all : Entry = enter_timed t (thread_at scene t).interrupted no_wait gate in
    either (CalmIf t row scene) (gate.action && is_full (thread_at scene t)) (λ calm. still t row scene _)
    (calm_entered all.answer into b t row program scene all.barrier (beside_keeps gate.runner t (thread_at scene t).interrupted no_wait gate))

calm_unless_busy : (b t : ℕ) (row : Row) (scene : Scene) (outcome : Option Outcome) → CalmIf t row scene outcome
    → CalmIf t row scene (unless_busy b t scene outcome)
calm_unless_busy b t row scene outcome calm = grind arith

calm_unless_runner : (b t : ℕ) (row : Row) (scene : Scene) (outcome : Option Outcome) → CalmIf t row scene outcome
    → CalmIf t row scene (unless_runner b t scene outcome)
calm_unless_runner b t row scene outcome calm =
    either (CalmIf t row scene) (is_run_by t (barrier_at scene b).runner) {b = outcome} (λ quiet. still t row scene _) calm

-- a reset may wake those who wait
quiet_barrier_row : (row : Row) (t : ℕ) (program : Program) (scene : Scene) → QuietIf t row scene (outcome_of_barrier_row row t program scene)
quiet_barrier_row (Cawait into b) t program scene =
    quiet_if t (Cawait into b) scene _ (calm_unless_busy b t (Cawait into b) scene _ (calm_unless_runner b t (Cawait into b) scene _
    (calm_await false into b t (Cawait into b) program scene)))
quiet_barrier_row row t program scene = search (rules, quiet_if, calm_unless_busy, calm_unless_runner, calm_await, still)

-- turns of threads that don't run

calm_awaited : (looks : Bool) (into : Reg) (p : ℕ) (phase : ℤ) (t : ℕ) (row : Row) (scene : Scene)
    → CalmIf t row scene (outcome_of_awaited looks into p phase t scene)
calm_awaited looks into p phase t row scene =
    either (CalmIf t row scene) (is_past p phase scene) (λ calm. still t row scene _)
    (either (CalmIf t row scene) (looks && (thread_at scene t).interrupted) {b = None} (λ calm. still t row scene _) tt)

calm_phase_wait : (row : Row) (phase : ℤ) (t : ℕ) (scene : Scene) → CalmIf t row scene (outcome_of_phase_wait row phase t scene)
calm_phase_wait (Paaa into p) phase t scene = calm_awaited false into p phase t (Paaa into p) scene
calm_phase_wait row phase t scene = search (rules, calm_awaited)

calm_release : (wait : Option WaitState) (into : Reg) (index : ℤ) (b t : ℕ) (row : Row) (scene : Scene)
    → CalmIf t row scene (outcome_of_release wait into index b t scene)
calm_release (Some state.Tripped) into index b t row scene = λ calm.
    at_gate b t row scene (leave t (barrier_at scene b)) _ (set_else t (barrier_at scene b) None)
calm_release wait into index b t row scene = search (rules, at_gate, set_else)

calm_barrier_wait : (row : Row) (index : ℤ) (t : ℕ) (scene : Scene) → CalmIf t row scene (outcome_of_barrier_wait row index t scene)
calm_barrier_wait (Cawait into b) index t scene = calm_release (wait_at (barrier_at scene b).waits t) into index b t (Cawait into b) scene
calm_barrier_wait row index t scene = search (rules, calm_release)

-- all of them

quiet_in_group : (group : Group) (row : Row) (t : ℕ) (program : Program) (scene : Scene)
    → QuietIf t row scene (outcome_in_group group row t program scene)
quiet_in_group group row t program scene = search (rules, quiet_phaser_row, quiet_barrier_row, still)

quiet_in : (of : Status) (row : Row) (t : ℕ) (program : Program) (scene : Scene) → QuietIf t row scene (outcome_in of row t program scene)
quiet_in _ row t program scene = search (rules, quiet_in_group, quiet_if, calm_phase_wait, calm_barrier_wait)

quiet_timeout : (of : Status) (row : Row) (t : ℕ) (scene : Scene) → QuietIf t row scene (timeout_in of row t scene)
quiet_timeout of row t scene = search (rules, quiet_if, still)

-- a row that changes no tree
pub same_trees : (of : Status) (row : Row) (top : Option Frame) (before after : List Stored) → changes_tree row ≡ false
    → PhasersWithin (reach_in of row top) before after → after ≡ before
same_trees of row top before after none within = grind arith

-- of another thread, whose registration isn't held by the trees that the step leaves
other_by : (program : Program) (t u : ℕ) (row : Row) (old new : StoredScene) → Leaves t row (scene_of old) (scene_of new) → KnowsReady program old
    → u ≢ t → interrupts u row ≡ false → (has old.ready.registering u ≡ true → new.phasers ≡ old.phasers)
    → has old.ready.turns u ≡ is_ready u program (scene_of new)
other_by program t u row old new leaves knows apart free same =
    let alike : Alike u (scene_of old) (scene_of new) = record {
      thread = leaves.threads u apart free;
      standings = leaves.standings;
      waits = λ b. leaves.waits b u apart;
      runners = leaves.runners;
    } in
    knows.turns u
    ∙ sym (ready_same u program (scene_of old) (scene_of new) alike (λ is. ap phasers_of (same (knows.registering u ∙ is))))

-- where they change, whoever isn't about to register
by_tree : (tree registering : Bool) (P : Type 0) → (tree ≡ false → P) → (tree && registering) ≡ false → registering ≡ true → P
by_tree false registering P same none is = same refl
by_tree true registering P same none is = absurd (cc (none, is))

others_by : (program : Program) (t : ℕ) (row : Row) (old new : StoredScene) → Leaves t row (scene_of old) (scene_of new) → KnowsReady program old
    → (changes_tree row ≡ false → new.phasers ≡ old.phasers) → AreOthersReady program t row old.ready (scene_of new)
others_by program t row old new leaves knows same = record {
  turns = λ u apart free none. other_by program t u row old new leaves knows apart free
      (by_tree (changes_tree row) (has old.ready.registering u) (new.phasers ≡ old.phasers) same none);
  registering = λ u apart free. knows.registering u
      ∙ sym (registering_same u program (scene_of old) (scene_of new) (leaves.threads u apart free));
}

-- what a quiet turn leaves, of a thread that stands at this row
leaves_turn : (program : Program) (t : ℕ) (row : Row) (old new : StoredScene) (event : Event)
    → outcome_in (thread_at (scene_of old) t).status row t program (scene_of old) ≡ Some (record { scene = scene_of new; event = event })
    → changes_all row event ≡ false → Leaves t row (scene_of old) (scene_of new)
leaves_turn program t row old new event is quiet = grind (arith, quiet_in)

-- after a quiet turn
pub others_ready : (program : Program) (t : ℕ) (row : Row) (old new : StoredScene) (event : Event) → KnowsReady program old
    → outcome_in (thread_at (scene_of old) t).status row t program (scene_of old) ≡ Some (record { scene = scene_of new; event = event })
    → PhasersWithin (reach_in (thread_at (scene_of old) t).status row (top_of (thread_at (scene_of old) t).stack)) old.phasers new.phasers
    → changes_all row event ≡ false → AreOthersReady program t row old.ready (scene_of new)
others_ready program t row old new event knows is within quiet = grind (arith, others_by, leaves_turn, same_trees)

-- of one other thread, where the trees are the same or nobody is about to register
pub other_ready : (program : Program) (t u : ℕ) (row : Row) (old new : StoredScene) (event : Event) → KnowsReady program old
    → outcome_in (thread_at (scene_of old) t).status row t program (scene_of old) ≡ Some (record { scene = scene_of new; event = event })
    → changes_all row event ≡ false → interrupts u row ≡ false → u ≢ t → (has old.ready.registering u ≡ true → new.phasers ≡ old.phasers)
    → (has old.ready.turns u ≡ is_ready u program (scene_of new)) × (has old.ready.registering u ≡ is_registering u program (scene_of new))
other_ready program t u row old new event knows is quiet free apart same =
    let leaves = leaves_turn program t row old new event is quiet in (
      other_by program t u row old new leaves knows apart free same,
      knows.registering u ∙ sym (registering_same u program (scene_of old) (scene_of new) (leaves.threads u apart free)),
    )

-- after the quiet expiry of a wait
pub others_ready_late : (program : Program) (t : ℕ) (row : Row) (old new : StoredScene) (event : Event) → KnowsReady program old
    → timeout_in (thread_at (scene_of old) t).status row t (scene_of old) ≡ Some (record { scene = scene_of new; event = event })
    → new.phasers ≡ old.phasers → changes_all row event ≡ false → AreOthersReady program t row old.ready (scene_of new)
others_ready_late program t row old new event knows is same quiet = grind (arith, others_by, quiet_timeout)
