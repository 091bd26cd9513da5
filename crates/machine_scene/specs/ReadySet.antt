-- The threads whose turn is ready, stored as a set, so that a caller who asks for one looks at a bit. A step computes again the
-- bits that it may have changed. Only proofs use this: no promise depends on it.
use Rattle.std.specs.Prelude.{◌≡◌, ◌≢◌, ℕ, ◌==◌, ◌&&◌, ◌||◌, not, Bool, true, false, if◌then◌else◌}
use Rattle.instruction_table.specs.{declared.row.Row.Row, LocalRows.is_local_row}
use Rattle.instruction_table.specs.declared.row.Row.TheVariants.{Ret, Intr, Preg, Pbulk, Parr, Pdereg, Paaa, Pforce, Creset}
use Rattle.cyclic_barrier.specs.ThreadSet.{has}
use Rattle.loader.specs.Program.{Program, row_at}
use Rattle.thread_state.specs.declared.{event.Event.Event, event.What.What, event.Mark.Mark, status.Status.Status}
use Rattle.thread_state.specs.declared.event.What.TheVariants as what
use Rattle.thread_state.specs.declared.event.Mark.TheVariants as mark
use Rattle.thread_state.specs.declared.status.Status.TheVariants as status
use Rattle.machine_scene.specs.{declared.ready_set.ReadySet.ReadySet, Outcomes.is_ready, Ready.may_be_blocked}
use Rattle.machine_scene.specs.Scene.{Scene, StoredScene, scene_of, thread_at}

-- a registration: whether it is held, an arrival or a departure by any other thread may change
abbrev pub is_registration : Row → Bool
is_registration (Preg into p) = true
is_registration (Pbulk into p count) = true
is_registration _ = false

-- a thread of this status at this row is about to register
abbrev pub is_registering_in : Status → Row → Bool
is_registering_in status.Runs row = is_registration row
is_registering_in _ row = false

-- thread t is
abbrev pub is_registering : ℕ → Program → Scene → Bool
is_registering t program scene = is_registering_in (thread_at scene t).status (row_at program.rows (thread_at scene t).pc)

-- the sets are those of the scene: the threads whose turn is ready, and the threads that are about to register
pub record AreReady (program : Program) (set : ReadySet) (scene : Scene) : Type 0 where
  pub turns : (u : ℕ) → has set.turns u ≡ is_ready u program scene
  pub registering : (u : ℕ) → has set.registering u ≡ is_registering u program scene

-- the stored sets are those of the scene
abbrev pub KnowsReady : Program → StoredScene → Type 0
KnowsReady program stored = AreReady program stored.ready (scene_of stored)

-- the set is the same as before, except for one thread
abbrev pub IsSetAt : ℕ → Bool → ℕ → ℕ → Type 0
IsSetAt t within before set = (u : ℕ) → has set u ≡ (if t == u then within else has before u)

-- the threads for which this is true were computed again; for all others the sets are as before
pub record AreLooked (program : Program) (these : ℕ → Bool) (before set : ReadySet) (scene : Scene) : Type 0 where
  pub turns : (u : ℕ) → has set.turns u ≡ (if these u then is_ready u program scene else has before.turns u)
  pub registering : (u : ℕ) → has set.registering u ≡ (if these u then is_registering u program scene else has before.registering u)

-- thread t was
abbrev pub IsLooked : Program → ℕ → ReadySet → ReadySet → Scene → Type 0
IsLooked program t before set scene = AreLooked program (λ u. t == u) before set scene

-- the row interrupts thread u
abbrev pub interrupts : ℕ → Row → Bool
interrupts u (Intr other) = other == u
interrupts u _ = false

-- a row that may change a tree
abbrev pub changes_tree : Row → Bool
changes_tree Ret = true
changes_tree (Preg into p) = true
changes_tree (Pbulk into p count) = true
changes_tree (Parr into p) = true
changes_tree (Pdereg into p) = true
changes_tree (Paaa into p) = true
changes_tree (Pforce p) = true
changes_tree _ = false

-- an event shows more than a turn of its own thread: a phase or a generation has ended
abbrev pub is_marked : Mark → Bool
is_marked mark.Nothing = false
is_marked _ = true

-- or a routine or an action begins
abbrev pub is_entry : What → Bool
is_entry what.Enters = true
is_entry _ = false

abbrev pub concerns_others : Event → Bool
concerns_others event = is_marked event.mark || is_entry event.what

-- a step at this row, with this event, may have changed for any thread whether its turn is ready
abbrev pub changes_all : Row → Event → Bool
changes_all (Pforce p) event = true
changes_all (Creset b) event = true
changes_all _ event = concerns_others event

-- after a step of thread t at this row, these sets of before are still right, except perhaps for the thread itself, for one
-- that the row interrupts, and, if the row may change a tree, for those that are about to register
pub record AreOthersReady (program : Program) (t : ℕ) (row : Row) (set : ReadySet) (scene : Scene) : Type 0 where
  pub turns : (u : ℕ) → u ≢ t → interrupts u row ≡ false → (changes_tree row && has set.registering u) ≡ false
      → has set.turns u ≡ is_ready u program scene
  pub registering : (u : ℕ) → u ≢ t → interrupts u row ≡ false → has set.registering u ≡ is_registering u program scene

-- thread t, with this status, runs, and its row uses only registers
abbrev pub is_local_turn : Status → Row → Bool
is_local_turn status.Runs row = is_local_row row
is_local_turn _ row = false

-- the sets are those of the scene, except for thread t
pub record AreReadyBeside (program : Program) (t : ℕ) (set : ReadySet) (scene : Scene) : Type 0 where
  pub turns : (u : ℕ) → u ≢ t → has set.turns u ≡ is_ready u program scene
  pub registering : (u : ℕ) → u ≢ t → has set.registering u ≡ is_registering u program scene

-- an arrival by a party that stays
abbrev pub is_arrival : Row → Bool
is_arrival (Parr into p) = true
is_arrival (Paaa into p) = true
is_arrival _ = false

-- the turn of a thread with this status at this row is a frequent one: a row that uses only registers, an arrival, or the end
-- of a wait for a phase
abbrev pub is_common : Status → Row → Bool
is_common status.Runs row = is_local_row row || is_arrival row
is_common (status.AwaitsPhase phase) row = true
is_common _ row = false

-- a thread of this status runs, and its row is none that it may have to wait at
abbrev pub runs_on : Status → Row → Bool
runs_on status.Runs row = not (may_be_blocked row)
runs_on _ row = false

-- a thread begins to wait
abbrev pub is_wait : What → Bool
is_wait what.Waits = true
is_wait _ = false
