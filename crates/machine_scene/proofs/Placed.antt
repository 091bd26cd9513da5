-- What a turn may count on in a sound scene, said of the scene as it is stored.
use Rattle.std.proofs.Common.{◌≡◌, ◌∙◌, ℕ, ◌<◌, length, sym, subst, arith, Option, Some}
use Rattle.instruction_table.specs.declared.row.Row.{Row}
use Rattle.tier_tree.proofs.Shown.{length-shown}
use Rattle.cyclic_barrier.specs.Barrier.{has_wait}
use Rattle.loader.specs.Program.{Program, IsNamed, row_at}
use Rattle.thread_state.specs.{declared.frame.Frame.Frame, declared.status.Status.Status, Thread.top_of}
use Rattle.thread_state.specs.declared.frame.Frame.TheVariants as frame
use Rattle.machine_scene.specs.Scene.{Scene, StoredScene, scene_of, counts_in, thread_at, barrier_at}
use Rattle.machine_scene.specs.Sound.{IsSound, HasItsWait, SeesWait, StandsAt, IsTop, awaits}
use Rattle.machine_scene.proofs.Facts.{named_at, placed_at, top_named, advance_pending, action_runs}

-- by the thread's status
its_wait : (s : Status) (row : Row) (t : ℕ) (scene : Scene) → ((b : ℕ) → has_wait t (barrier_at scene b) ≡ awaits b s row)
    → HasItsWait s row t scene
its_wait s row t scene known = grind arith

-- what the row at this place names is there
pub named_in : (program : Program) (steps pc : ℕ) (stored : StoredScene) → IsSound program steps (scene_of stored)
    → pc < length program.rows → IsNamed (counts_in stored) (row_at program.rows pc)
named_in program steps pc stored sound within = grind (arith, length-shown, named_at)

-- what a look at the thread's wait may count on
pub wait_placed : (program : Program) (steps : ℕ) (row : Row) (t : ℕ) (stored : StoredScene) → IsSound program steps (scene_of stored)
    → t < length stored.threads → row ≡ row_at program.rows (thread_at (scene_of stored) t).pc → SeesWait row t stored
wait_placed program steps row t stored sound there is =
    let scene = scene_of stored in
    let placed = placed_at program steps scene t sound there in
    record {
      named = subst (IsNamed (counts_in stored)) (sym is) (named_in program steps (thread_at scene t).pc stored sound placed.pc);
      waits = its_wait (thread_at scene t).status row t scene
          (λ b. subst (λ (r : Row). has_wait t (barrier_at scene b) ≡ awaits b (thread_at scene t).status r) (sym is) (sound.waits b t));
    }

-- the same row after a turn
pub named_still : (program : Program) (row : Row) (t : ℕ) (old new : StoredScene) → IsSound program 2147483646 (scene_of old)
    → t < length old.threads → row ≡ row_at program.rows (thread_at (scene_of old) t).pc → IsSound program 2147483647 (scene_of new)
    → IsNamed (counts_in new) row
named_still program row t old new sound there is after =
    subst (IsNamed (counts_in new)) (sym is)
    (named_in program 2147483647 (thread_at (scene_of old) t).pc new after (placed_at program 2147483646 (scene_of old) t sound there).pc)

-- what a turn at the thread's row may count on
pub turn_placed : (program : Program) (row : Row) (t : ℕ) (stored : StoredScene) → IsSound program 2147483646 (scene_of stored)
    → t < length stored.threads → row ≡ row_at program.rows (thread_at (scene_of stored) t).pc → StandsAt program row t stored
turn_placed program row t stored sound there is =
    let rows = sound.code.few in
    let within = (placed_at program 2147483646 (scene_of stored) t sound there).pc in
    record {
      plays = record { thread = there; place = omega (arith, rows, within) };
      sees = wait_placed program 2147483646 row t stored sound there is;
      routines = sound.code.all_routines ∙ length-shown stored.phasers;
      actions = sound.code.all_actions;
      ends = λ p. let most = sound.trees.ends p in omega (arith, most);
    }

-- by the top entry
top_by : (top : Option Frame) (program : Program) (t : ℕ) (stored : StoredScene) → IsSound program 2147483646 (scene_of stored)
    → t < length stored.threads → top_of (thread_at (scene_of stored) t).stack ≡ top → IsTop program stored top
top_by (Some (frame.Advance root registers row)) program t stored sound there is =
    let scene = scene_of stored in
    let named = top_named program 2147483646 scene t (frame.Advance root registers row) sound there is in
    let many = length-shown stored.phasers in
    let within = named.1.0 in (
      (named.0, omega (arith, many, within)),
      (named.1.1, advance_pending program 2147483646 scene t root row registers sound there is),
    )
top_by (Some (frame.Action b registers row)) program t stored sound there is =
    let scene = scene_of stored in
    let named = top_named program 2147483646 scene t (frame.Action b registers row) sound there is in
    ((named.0, named.1), action_runs program 2147483646 scene t b row registers sound there is)
top_by _ program t stored sound there is = tt

-- what the top entry of the thread's stack may be counted on for
pub top_placed : (program : Program) (top : Option Frame) (t : ℕ) (stored : StoredScene) → IsSound program 2147483646 (scene_of stored)
    → t < length stored.threads → top ≡ top_of (thread_at (scene_of stored) t).stack → IsTop program stored top
top_placed program top t stored sound there is = top_by top program t stored sound there (sym is)
