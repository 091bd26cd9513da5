-- A turn that is undone: its own thread, and the one thing beside it that the turn could change.
use Rattle.std.proofs.Common.{inl, inr, ◌≡◌, ◌∙◌, ℕ, ℤ, pos, ◌-◌, ◌<◌, false, List, [], ◌∷◌, ◌++◌, length, take, refl, sym, subst, arith, Option, Some, None, option_to_list, slice_set, slice_index_or, set-set, get_or-set_same, get_or-set_other, ext_get_or, length-set, take-take, take_all}
use Rattle.std.proofs.lemmas.{Bool.cases_eq, List.set-get_or, List.take-append-le}
use Rattle.tier_tree.specs.Forest.{PhaserState}
use Rattle.cyclic_barrier.specs.Barrier.{BarrierState, fresh}
use Rattle.thread_state.specs.{declared.frame.Frame.Frame, Thread.ThreadState, Thread.top_of}
use Rattle.thread_state.specs.Undo as own
use Rattle.machine_scene.specs.declared.reach.Reach.{Reach}
use Rattle.machine_scene.specs.Scene.{Scene, Outcome, no_thread, thread_at, with_thread, with_phasers, with_barrier}
use Rattle.machine_scene.specs.declared.reach.Reach.TheVariants as reach

-- the note of a thread gives it back
pub record IsBack (before after : ThreadState) : Type 0 where
  pub is : own.undone (own.note_of before) after ≡ before

restacked : (stack : List Frame) → take (length stack - 1) stack ++ option_to_list (top_of stack) ≡ stack
restacked (entry ∷ next ∷ stack) = grind (arith, restacked (next ∷ stack))
restacked stack = grind arith

-- by what is kept of the stack and of the output
back_by : (before after : ThreadState) → take (length before.stack - 1) after.stack ≡ take (length before.stack - 1) before.stack
    → take (length before.output) after.output ≡ before.output → IsBack before after
back_by before after stack output = grind (arith, restacked)

-- its stack and output are the same
pub back_same : (before after : ThreadState) → after.stack ≡ before.stack → after.output ≡ before.output → IsBack before after
back_same before after stack output = grind (arith, back_by, take_all)

-- it got one entry
pub back_push : (before after : ThreadState) (entry : Frame) → after.stack ≡ before.stack ++ entry ∷ [] → after.output ≡ before.output
    → IsBack before after
back_push before after entry stack output = grind (arith, back_by, take-append-le, take_all)

-- it lost one
pub back_pop : (before after : ThreadState) → after.stack ≡ take (length before.stack - 1) before.stack → after.output ≡ before.output
    → IsBack before after
back_pop before after stack output = grind (arith, back_by, take-take, take_all)

-- it put out one value
pub back_out : (before after : ThreadState) (value : ℤ) → after.stack ≡ before.stack → after.output ≡ before.output ++ value ∷ []
    → IsBack before after
back_out before after value stack output = grind (arith, back_by, take-append-le, take_all)

-- the cells, with what this reach kept of them
abbrev pub cells_back : Reach → List ℤ → List ℤ → List ℤ
cells_back (reach.Cell cell) before after = slice_set after cell (slice_index_or before cell (pos 0))
cells_back _ before after = after

abbrev pub barriers_back : Reach → List BarrierState → List BarrierState → List BarrierState
barriers_back (reach.Barrier b) before after = slice_set after b (slice_index_or before b (fresh 1 false))
barriers_back _ before after = after

-- the threads with one of them as it was
abbrev pub thread_back : ℕ → List ThreadState → List ThreadState → List ThreadState
thread_back t before after =
    slice_set after t (own.undone (own.note_of (slice_index_or before t no_thread)) (slice_index_or after t no_thread))

abbrev pub threads_back : Reach → ℕ → List ThreadState → List ThreadState → List ThreadState
threads_back (reach.Thread other) t before after = thread_back t before (thread_back other before after)
threads_back _ t before after = thread_back t before after

-- what was kept before the turn of thread t gives back all but the phasers
pub record GivesBack (reach : Reach) (t : ℕ) (before after : Scene) : Type 0 where
  pub cells : cells_back reach before.cells after.cells ≡ before.cells
  pub barriers : barriers_back reach before.barriers after.barriers ≡ before.barriers
  pub threads : threads_back reach t before.threads after.threads ≡ before.threads

-- where there is an outcome
abbrev pub BackIf : Reach → ℕ → Scene → Option Outcome → Type 0
BackIf reach t scene None = Unit {0}
BackIf reach t scene (Some outcome) = GivesBack reach t scene outcome.scene

-- no thread but its own is kept
abbrev pub IsOwn : Reach → ℕ → Type 0
IsOwn reach t = (before after : List ThreadState) → threads_back reach t before after ≡ thread_back t before after

-- a thread that is set, and then as it was
pub thread_set : (t : ℕ) (threads : List ThreadState) (thread : ThreadState) → t < length threads
    → IsBack (slice_index_or threads t no_thread) thread → thread_back t threads (slice_set threads t thread) ≡ threads
thread_set t threads thread there back = grind (arith, set-set, get_or-set_same, set-get_or)

-- a turn from a scene in which thread t alone may be another already
pub back_from : (reach : Reach) (t : ℕ) (before mid : Scene) (after : ThreadState) → IsOwn reach t → t < length before.threads
    → cells_back reach before.cells mid.cells ≡ before.cells → barriers_back reach before.barriers mid.barriers ≡ before.barriers
    → slice_set mid.threads t after ≡ slice_set before.threads t after → IsBack (thread_at before t) after
    → GivesBack reach t before (with_thread after t mid)
back_from reach t before mid after is_own there cells barriers threads back = grind (arith, thread_set)

-- a turn of the thread alone
pub back_alone : (reach : Reach) (t : ℕ) (scene : Scene) (after : ThreadState) → IsOwn reach t → t < length scene.threads
    → IsBack (thread_at scene t) after → GivesBack reach t scene (with_thread after t scene)
back_alone reach t scene after is_own there back = grind (arith, back_from, set-get_or)

-- with a tree
pub back_tree : (p t : ℕ) (scene : Scene) (phasers : List PhaserState) (after : ThreadState) → t < length scene.threads
    → IsBack (thread_at scene t) after → GivesBack (reach.Tree p) t scene (with_thread after t (with_phasers phasers scene))
back_tree p t scene phasers after there back =
    back_from (reach.Tree p) t scene (with_phasers phasers scene) after (λ first last. refl) there refl refl refl back

-- a barrier that is set, and then as it was
pub gate_back : (b : ℕ) (scene : Scene) (gate : BarrierState)
    → slice_set (slice_set scene.barriers b gate) b (slice_index_or scene.barriers b (fresh 1 false)) ≡ scene.barriers
gate_back b scene gate = grind (arith, set-set, set-get_or)

-- with a barrier
pub back_barrier : (b t : ℕ) (scene : Scene) (gate : BarrierState) (after : ThreadState) → t < length scene.threads
    → IsBack (thread_at scene t) after → GivesBack (reach.Barrier b) t scene (with_thread after t (with_barrier gate b scene))
back_barrier b t scene gate after there back =
    back_from (reach.Barrier b) t scene (with_barrier gate b scene) after (λ first last. refl) there refl
    (gate_back b scene gate) refl back

-- two places that were set, and then as they were
both_set : (threads : List ThreadState) (u t : ℕ) (first second : ThreadState) → u < length threads → t < length threads
    → slice_set (slice_set (slice_set (slice_set threads u first) t second) u (slice_index_or threads u no_thread)) t
    (slice_index_or threads t no_thread) ≡ threads
both_set threads u t first second here there =
    let was_u = slice_index_or threads u no_thread in
    let was_t = slice_index_or threads t no_thread in
    let one = slice_set threads u first in
    let two = slice_set one t second in
    let three = slice_set two u was_u in
    let many_one : length one ≡ length threads = length-set threads u first in
    let many_two : length two ≡ length threads = length-set one t second ∙ many_one in
    let many_three : length three ≡ length threads = length-set two u was_u ∙ many_two in
    ext_get_or no_thread (slice_set three t was_t) threads (length-set three t was_t ∙ many_three) (λ n within.
    elim (cases_eq n t) as (λ _. slice_index_or (slice_set three t was_t) n no_thread ≡ slice_index_or threads n no_thread) [
      | inl is ↦
          subst (λ (m : ℕ). slice_index_or (slice_set three t was_t) m no_thread ≡ slice_index_or threads m no_thread) (sym is)
          (get_or-set_same three t was_t no_thread (omega (arith, many_three, there)))
      | inr apart ↦
          get_or-set_other three t n was_t no_thread apart
          ∙ (elim (cases_eq n u) as (λ _. slice_index_or three n no_thread ≡ slice_index_or threads n no_thread) [
            | inl is ↦
                subst (λ (m : ℕ). slice_index_or three m no_thread ≡ slice_index_or threads m no_thread) (sym is)
                (get_or-set_same two u was_u no_thread (omega (arith, many_two, here)))
            | inr away ↦
                get_or-set_other two u n was_u no_thread away ∙ get_or-set_other one t n second no_thread apart
                ∙ get_or-set_other threads u n first no_thread away
          ])
    ])

-- two threads, which may be one, that are set, and then as they were
pub threads_set : (threads : List ThreadState) (u t : ℕ) (first second : ThreadState) → u < length threads → t < length threads
    → IsBack (slice_index_or threads u no_thread) first → IsBack (slice_index_or threads t no_thread) second
    → thread_back t threads (thread_back u threads (slice_set (slice_set threads u first) t second)) ≡ threads
threads_set threads u t first second here there back_u back_t = grind (arith, length-set, back_same, cases_eq, get_or-set_same, get_or-set_other, both_set)
