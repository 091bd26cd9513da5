-- Turns that gain no entry of a routine or an action.
use Rattle.std.proofs.Common.{◌≡◌, ℕ, ℤ, ◌+◌, ◌-◌, ◌<◌, ◌≤◌, Bool, true, false, cond, List, [], ◌∷◌, ◌++◌, take, length, refl, sym, subst, arith, Option, Some, None, slice_set, count_by, All}
use Rattle.std.proofs.lemmas.List.Elements.{All-take, All-push}
use Rattle.instruction_table.specs.declared.row.Row.{Row}
use Rattle.tier_tree.specs.{Forest.PhaserState, Trees.AreTrees}
use Rattle.tier_tree.proofs.Trees.{KeepsTrees, trees_same, more_trees}
use Rattle.loader.specs.{Named.stops, Program.Program, Program.IsNamed, Program.row_at}
use Rattle.thread_state.specs.{declared.frame.Frame.Frame, declared.status.Status.Status, Frame.is_advance, Frame.is_action}
use Rattle.thread_state.specs.Thread.{ThreadState, top_of}
use Rattle.thread_state.specs.declared.frame.Frame.TheVariants as frame
use Rattle.machine_scene.specs.Scene.{Scene, Outcome, counts_of, thread_at}
use Rattle.machine_scene.specs.Sound.{IsFrame, IsPlaced, IsSound, bit, thread_awaits}
use Rattle.machine_scene.proofs.{Entries.entries-pop, Entries.entries-push, Facts.IsFree, Facts.placed_at}
use Rattle.machine_scene.proofs.Soundness.{sound_by, waits_same}

-- where there is an outcome, its scene is sound
abbrev pub KeepsSound : Program → ℕ → Option Outcome → Type 0
KeepsSound program steps None = Unit {0}
KeepsSound program steps (Some outcome) = IsSound program steps outcome.scene

-- what is true of both is true of the one that the test takes
pub either : {A : Type 0} (P : A → Type 0) (test : Bool) {a b : A} → P a → P b → P (cond test a b)
either P true p q = p
either P false p q = q

-- thread t with this status at this row, in a sound scene
pub record StandsAt (program : Program) (steps t : ℕ) (scene : Scene) (state : Status) (row : Row) : Type 0 where
  pub sound : IsSound program steps scene
  pub few : steps < 2147483647
  pub there : t < length scene.threads
  pub status : (thread_at scene t).status ≡ state
  pub at : row_at program.rows (thread_at scene t).pc ≡ row
  pub within : (thread_at scene t).pc < length program.rows
  pub next : stops row ≡ false → (thread_at scene t).pc + 1 < length program.rows
  pub named : IsNamed (counts_of program scene) row

pub free_in : (program : Program) (steps t : ℕ) (scene : Scene) (state : Status) (row : Row) → StandsAt program steps t scene state row
    → IsFree state → IsFree (thread_at scene t).status
free_in program steps t scene state row stands free = subst IsFree (sym stands.status) free

-- two threads that wait at no barrier
pub both_free : (program : Program) (thread before : ThreadState) → IsFree thread.status → IsFree before.status
    → (b : ℕ) → thread_awaits program b thread ≡ thread_awaits program b before
both_free program thread before now earlier b = grind arith

-- no entry of a routine or an action is gained
pub record GainsNone (before after : List Frame) : Type 0 where
  pub advances : (r : ℕ) → count_by (is_advance r) after ≤ count_by (is_advance r) before
  pub actions : (b : ℕ) → count_by (is_action b) after ≤ count_by (is_action b) before

pub gains_same : (stack : List Frame) → GainsNone stack stack
gains_same stack = record { advances = λ r. omega arith; actions = λ b. omega arith }

pub gains_call : (stack : List Frame) (row : ℕ) → GainsNone stack (stack ++ frame.Call row ∷ [])
gains_call stack row = grind (arith, entries-push)

pub gains_handler : (stack : List Frame) (row : ℕ) → GainsNone stack (stack ++ frame.Handler row ∷ [])
gains_handler stack row = grind (arith, entries-push)

gains_pop : (stack : List Frame) (f : Frame) → top_of stack ≡ Some f → GainsNone stack (take (length stack - 1) stack)
gains_pop stack f is = record {
  advances = λ r. let e = entries-pop (is_advance r) stack f is in omega (arith, e);
  actions = λ b. let e = entries-pop (is_action b) stack f is in omega (arith, e);
}

-- the phasers stay as they are
pub trees_stay : (steps : ℕ) (phasers : List PhaserState) → AreTrees steps phasers → KeepsTrees (steps + 1) phasers phasers
trees_stay steps phasers trees = more_trees steps phasers phasers (trees_same steps phasers trees)

-- whoever was pending is
pub pending_more : (before after : Bool) → (before ≡ true → after ≡ true) → bit before ≤ bit after
pending_more true after stays = rw (stays refl) (omega arith)
pending_more false after stays = omega arith

-- a turn that may change the cells, and the phasers as a call keeps them
pub sound_plain : (program : Program) (steps most t : ℕ) (scene : Scene) (thread : ThreadState) (phasers : List PhaserState) (cells : List ℤ)
    → IsSound program steps scene → t < length scene.threads → KeepsTrees most scene.phasers phasers
    → IsPlaced program scene thread → GainsNone (thread_at scene t).stack thread.stack
    → ((b : ℕ) → thread_awaits program b thread ≡ thread_awaits program b (thread_at scene t))
    → IsSound program most (record scene { cells = cells; threads = slice_set scene.threads t thread; phasers = phasers })
sound_plain program steps most t scene thread phasers cells sound there kept placed gains same =
    let after : Scene = record scene { cells = cells; threads = slice_set scene.threads t thread; phasers = phasers } in
    sound_by program steps most t thread scene after sound there (record {
      threads = refl;
      many = kept.many;
      roots = kept.places.roots;
      barriers = refl;
      trees = kept.trees;
      placed = placed;
      advances = λ r within top.
          let fewer = gains.advances r in
          let pends = pending_more _ _ (kept.pending r top) in
          omega (arith, fewer, pends);
      actions = λ b. let fewer = gains.actions b in omega (arith, fewer);
      room = λ b. refl;
      waits = waits_same program steps t thread scene after sound there refl (λ b u. refl) same;
    })

-- one that leaves the stack as it is
pub sound_stay : (program : Program) (steps most t : ℕ) (scene : Scene) (thread : ThreadState) (phasers : List PhaserState) (cells : List ℤ)
    → IsSound program steps scene → t < length scene.threads → KeepsTrees most scene.phasers phasers
    → thread.pc < length program.rows → thread.stack ≡ (thread_at scene t).stack
    → IsFree thread.status → IsFree (thread_at scene t).status
    → IsSound program most (record scene { cells = cells; threads = slice_set scene.threads t thread; phasers = phasers })
sound_stay program steps most t scene thread phasers cells sound there kept within stack free free_before =
    sound_plain program steps most t scene thread phasers cells sound there kept
    (record { pc = within; stack = subst (All (IsFrame program scene)) (sym stack) (placed_at program steps scene t sound there).stack })
    (subst (GainsNone (thread_at scene t).stack) (sym stack) (gains_same (thread_at scene t).stack))
    (both_free program thread (thread_at scene t) free free_before)

-- a thread's own turn, that leaves its stack as it is
pub sound_own : (program : Program) (steps t : ℕ) (scene : Scene) (thread : ThreadState) → IsSound program steps scene → t < length scene.threads
    → thread.pc < length program.rows → thread.stack ≡ (thread_at scene t).stack
    → IsFree thread.status → IsFree (thread_at scene t).status
    → IsSound program (steps + 1) (record scene { threads = slice_set scene.threads t thread })
sound_own program steps t scene thread sound there within stack free free_before =
    sound_stay program steps (steps + 1) t scene thread scene.phasers scene.cells sound there (trees_stay steps scene.phasers sound.trees)
    within stack free free_before

-- one that puts an entry of a call or of a handler on it
pub sound_push : (program : Program) (steps t : ℕ) (scene : Scene) (thread : ThreadState) (f : Frame) → IsSound program steps scene
    → t < length scene.threads → thread.pc < length program.rows → thread.stack ≡ (thread_at scene t).stack ++ f ∷ []
    → IsFrame program scene f → GainsNone (thread_at scene t).stack ((thread_at scene t).stack ++ f ∷ [])
    → IsFree thread.status → IsFree (thread_at scene t).status
    → IsSound program (steps + 1) (record scene { threads = slice_set scene.threads t thread })
sound_push program steps t scene thread f sound there within stack leads gains free free_before =
    let before = thread_at scene t in
    sound_plain program steps (steps + 1) t scene thread scene.phasers scene.cells sound there (trees_stay steps scene.phasers sound.trees)
    (record {
      pc = within;
      stack = subst (All (IsFrame program scene)) (sym stack)
          (All-push (IsFrame program scene) before.stack f (placed_at program steps scene t sound there).stack leads);
    })
    (subst (GainsNone before.stack) (sym stack) gains) (both_free program thread before free free_before)

-- one that takes the top entry off, and leaves phasers and barriers as they are
pub sound_pop : (program : Program) (steps t : ℕ) (f : Frame) (scene : Scene) (thread : ThreadState) → IsSound program steps scene
    → t < length scene.threads → top_of (thread_at scene t).stack ≡ Some f
    → thread.stack ≡ take (length (thread_at scene t).stack - 1) (thread_at scene t).stack
    → thread.pc < length program.rows → IsFree thread.status → IsFree (thread_at scene t).status
    → IsSound program (steps + 1) (record scene { threads = slice_set scene.threads t thread })
sound_pop program steps t f scene thread sound there is stack within free free_before =
    let before = thread_at scene t in
    sound_plain program steps (steps + 1) t scene thread scene.phasers scene.cells sound there (trees_stay steps scene.phasers sound.trees)
    (record {
      pc = within;
      stack = subst (All (IsFrame program scene)) (sym stack)
          (All-take (IsFrame program scene) (length before.stack - 1) before.stack (placed_at program steps scene t sound there).stack);
    })
    (subst (GainsNone before.stack) (sym stack) (gains_pop before.stack f is)) (both_free program thread before free free_before)
