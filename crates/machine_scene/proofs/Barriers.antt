-- Turns at barriers.
use Rattle.std.proofs.Common.{inl, inr, ◌≡◌, ◌≢◌, ◌∙◌, ℕ, ℤ, ◌+◌, ◌-◌, ◌<◌, ◌≤◌, Bool, List, [], ◌∷◌, ◌++◌, take, length, ap, refl, sym, subst, arith, is_some, Option, Some, None, slice_set, count_by, All, length-set, get_or-set_same, get_or-set_other}
use Rattle.std.proofs.lemmas.{Bool.cases_eq, List.Elements.All-take, List.Elements.All-push}
use Rattle.tier_tree.proofs.{Trees.more_ends, Stands.same-is}
use Rattle.cyclic_barrier.specs.Barrier.{BarrierState, has_wait, end_action}
use Rattle.cyclic_barrier.proofs.CallLemmas.{has_wait-end_action, length-end_action}
use Rattle.loader.specs.Program.{Program}
use Rattle.thread_state.specs.{declared.frame.Frame.Frame, Frame.is_advance, Frame.is_action, Thread.ThreadState, Thread.top_of}
use Rattle.thread_state.specs.declared.frame.Frame.TheVariants as frame
use Rattle.machine_scene.specs.Scene.{Scene, no_thread, thread_at, barrier_at}
use Rattle.machine_scene.specs.Sound.{IsFrame, IsPlaced, IsSound, bit, thread_awaits}
use Rattle.machine_scene.proofs.{Entries.entries-pop, Entries.entries-push, Facts.IsFree, Facts.placed_at, Soundness.sound_by}
use Rattle.machine_scene.proofs.{Plain.both_free, Routines.least, Routines.other-no}

-- what a call at barrier b means for who has a wait there, for its runner, and for the entries of thread t
pub record GateStep (program : Program) (t b : ℕ) (before thread : ThreadState) (gate gate_after : BarrierState) : Type 0 where
  pub others : (u : ℕ) → u ≢ t → has_wait u gate_after ≡ has_wait u gate
  pub own : has_wait t gate_after ≡ thread_awaits program b thread
  pub elsewhere : (c : ℕ) → c ≢ b → thread_awaits program c thread ≡ thread_awaits program c before
  pub room : length gate_after.waits ≡ length gate.waits
  pub runs : count_by (is_action b) thread.stack + bit (is_some gate.runner) ≤ count_by (is_action b) before.stack + bit (is_some gate_after.runner)
  pub runs_elsewhere : (c : ℕ) → c ≢ b → count_by (is_action c) thread.stack ≤ count_by (is_action c) before.stack
  pub advances : (r : ℕ) → count_by (is_advance r) thread.stack ≤ count_by (is_advance r) before.stack

-- a fact of each barrier, where that of one alone has changed
at_each : (P : ℕ → BarrierState → Type 0) (b : ℕ) (scene after : Scene) (gate : BarrierState) → barrier_at after b ≡ gate
    → ((c : ℕ) → c ≢ b → barrier_at after c ≡ barrier_at scene c) → P b gate → ((c : ℕ) → c ≢ b → P c (barrier_at scene c))
    → (c : ℕ) → P c (barrier_at after c)
at_each P b scene after gate now stays here elsewhere c = grind (arith, cases_eq)

pub sound_gate : (program : Program) (steps t b : ℕ) (scene : Scene) (thread : ThreadState) (gate : BarrierState)
    → IsSound program steps scene → t < length scene.threads → b < length scene.barriers → IsPlaced program scene thread
    → GateStep program t b (thread_at scene t) thread (barrier_at scene b) gate
    → IsSound program (steps + 1)
    (record scene { threads = slice_set scene.threads t thread; barriers = slice_set scene.barriers b gate })
sound_gate program steps t b scene thread gate sound there here placed step =
    let before = thread_at scene t in
    let after : Scene = record scene { threads = slice_set scene.threads t thread; barriers = slice_set scene.barriers b gate } in
    let now : barrier_at after b ≡ gate = get_or-set_same scene.barriers b gate _ here in
    let stays : (c : ℕ) → c ≢ b → barrier_at after c ≡ barrier_at scene c = λ c apart. get_or-set_other scene.barriers b c gate _ apart in
    let thread_now : thread_at after t ≡ thread = get_or-set_same scene.threads t thread no_thread there in
    let thread_stays : (u : ℕ) → u ≢ t → thread_at after u ≡ thread_at scene u = λ u apart. get_or-set_other scene.threads t u thread no_thread apart in
    let own_or_other : (c u : ℕ) → (has : Bool) → (u ≡ t → has ≡ thread_awaits program c thread)
    → (u ≢ t → has ≡ thread_awaits program c (thread_at scene u)) → has ≡ thread_awaits program c (thread_at after u) =
    λ c u has own other. elim (cases_eq u t) as (λ _. has ≡ thread_awaits program c (thread_at after u)) [
      | inl is ↦ own is ∙ ap (thread_awaits program c) (sym (ap (thread_at after) is ∙ thread_now))
      | inr apart ↦ other apart ∙ ap (thread_awaits program c) (sym (thread_stays u apart))
    ] in
    sound_by program steps (steps + 1) t thread scene after sound there (record {
      threads = refl;
      many = refl;
      roots = λ id. refl;
      barriers = length-set scene.barriers b gate;
      trees = more_ends steps scene.phasers sound.trees;
      placed = placed;
      advances = λ r within top. let fewer = step.advances r in omega (arith, fewer);
      actions = at_each (λ c g. count_by (is_action c) thread.stack + bit (is_some (barrier_at scene c).runner)
          ≤ count_by (is_action c) before.stack + bit (is_some g.runner)) b scene after gate now stays
          step.runs (λ c apart. let fewer = step.runs_elsewhere c apart in omega (arith, fewer));
      room = at_each (λ c g. length g.waits ≡ length (barrier_at scene c).waits) b scene after gate now stays step.room (λ c apart. refl);
      waits = at_each (λ c g. (u : ℕ) → has_wait u g ≡ thread_awaits program c (thread_at after u)) b scene after gate now stays
          (λ u. own_or_other b u (has_wait u gate)
          (λ is. ap (λ (n : ℕ). has_wait n gate) is ∙ step.own) (λ apart. step.others u apart ∙ sound.waits b u))
          (λ c apart u. own_or_other c u (has_wait u (barrier_at scene c))
          (λ is. sound.waits c u ∙ ap (λ (n : ℕ). thread_awaits program c (thread_at scene n)) is ∙ sym (step.elsewhere c apart))
          (λ other. sound.waits c u));
    })

-- a call that changes nobody's wait, of a thread that awaits no barrier before or after
pub sound_beside : (program : Program) (steps t b : ℕ) (scene : Scene) (thread : ThreadState) (gate : BarrierState)
    → IsSound program steps scene → t < length scene.threads → b < length scene.barriers → IsPlaced program scene thread
    → ((u : ℕ) → has_wait u gate ≡ has_wait u (barrier_at scene b)) → length gate.waits ≡ length (barrier_at scene b).waits
    → count_by (is_action b) thread.stack + bit (is_some (barrier_at scene b).runner)
    ≤ count_by (is_action b) (thread_at scene t).stack + bit (is_some gate.runner)
    → ((c : ℕ) → c ≢ b → count_by (is_action c) thread.stack ≤ count_by (is_action c) (thread_at scene t).stack)
    → ((r : ℕ) → count_by (is_advance r) thread.stack ≤ count_by (is_advance r) (thread_at scene t).stack)
    → IsFree thread.status → IsFree (thread_at scene t).status
    → IsSound program (steps + 1)
    (record scene { threads = slice_set scene.threads t thread; barriers = slice_set scene.barriers b gate })
sound_beside program steps t b scene thread gate sound there here placed waits room runs runs_elsewhere advances free free_before =
    let before = thread_at scene t in
    sound_gate program steps t b scene thread gate sound there here placed (record {
      others = λ u apart. waits u;
      own = waits t ∙ sound.waits b t ∙ sym (both_free program thread before free free_before b);
      elsewhere = λ c apart. both_free program thread before free free_before c;
      room = room;
      runs = runs;
      runs_elsewhere = runs_elsewhere;
      advances = advances;
    })

-- one that leaves the runner and the stack as they are
pub sound_aside : (program : Program) (steps t b : ℕ) (scene : Scene) (thread : ThreadState) (gate : BarrierState)
    → IsSound program steps scene → t < length scene.threads → b < length scene.barriers
    → ((u : ℕ) → has_wait u gate ≡ has_wait u (barrier_at scene b)) → length gate.waits ≡ length (barrier_at scene b).waits
    → gate.runner ≡ (barrier_at scene b).runner → thread.pc < length program.rows → thread.stack ≡ (thread_at scene t).stack
    → IsFree thread.status → IsFree (thread_at scene t).status
    → IsSound program (steps + 1)
    (record scene { threads = slice_set scene.threads t thread; barriers = slice_set scene.barriers b gate })
sound_aside program steps t b scene thread gate sound there here waits room runner within stack free free_before =
    let before = thread_at scene t in
    let same : bit (is_some gate.runner) ≡ bit (is_some (barrier_at scene b).runner) = ap (λ (r : Option ℕ). bit (is_some r)) runner in
    sound_beside program steps t b scene thread gate sound there here
    (record { pc = within; stack = subst (All (IsFrame program scene)) (sym stack) (placed_at program steps scene t sound there).stack })
    waits room (rw stack (omega (arith, same))) (λ c apart. rw stack (omega arith)) (λ r. rw stack (omega arith)) free free_before

-- out of an action, by a return or an exception: its barrier loses its one entry as it loses its runner
pub sound_action_end : (program : Program) (steps t b row : ℕ) (registers : List ℤ) (returned : Bool) (scene : Scene) (thread : ThreadState)
    → IsSound program steps scene → t < length scene.threads → b < length scene.barriers
    → top_of (thread_at scene t).stack ≡ Some (frame.Action b registers row)
    → thread.stack ≡ take (length (thread_at scene t).stack - 1) (thread_at scene t).stack
    → thread.pc < length program.rows → IsFree thread.status → IsFree (thread_at scene t).status
    → IsSound program (steps + 1) (record scene {
      threads = slice_set scene.threads t thread;
      barriers = slice_set scene.barriers b (end_action returned (barrier_at scene b));
    })
sound_action_end program steps t b row registers returned scene thread sound there here is stack within free free_before =
    let before = thread_at scene t in
    let gate = barrier_at scene b in
    let f : Frame = frame.Action b registers row in
    let one : bit (is_action b f) ≡ 1 = ap bit (same-is b) in
    let most = least (is_some gate.runner) in
    sound_beside program steps t b scene thread (end_action returned gate) sound there here
    (record {
      pc = within;
      stack = subst (All (IsFrame program scene)) (sym stack)
          (All-take (IsFrame program scene) (length before.stack - 1) before.stack (placed_at program steps scene t sound there).stack);
    })
    (has_wait-end_action returned gate) (length-end_action returned gate)
    (let popped = entries-pop (is_action b) before.stack f is in rw stack (omega (arith, popped, one, most)))
    (λ c apart. let popped = entries-pop (is_action c) before.stack f is in rw stack (omega (arith, popped)))
    (λ r. let popped = entries-pop (is_advance r) before.stack f is in rw stack (omega (arith, popped)))
    free free_before

-- thread t enters the action of a barrier that nobody runs one of
pub sound_run : (program : Program) (steps t b first : ℕ) (scene : Scene) (thread : ThreadState) (gate : BarrierState)
    → IsSound program steps scene → t < length scene.threads → b < length scene.barriers
    → ((u : ℕ) → has_wait u gate ≡ has_wait u (barrier_at scene b)) → length gate.waits ≡ length (barrier_at scene b).waits
    → (barrier_at scene b).runner ≡ None → gate.runner ≡ Some t
    → (thread_at scene t).pc + 1 < length program.rows → thread.pc < length program.rows
    → thread.stack ≡ (thread_at scene t).stack ++ frame.Action b (thread_at scene t).registers (thread_at scene t).pc ∷ []
    → IsFree thread.status → IsFree (thread_at scene t).status
    → IsSound program (steps + 1)
    (record scene { threads = slice_set scene.threads t thread; barriers = slice_set scene.barriers b gate })
sound_run program steps t b first scene thread gate sound there here waits room idle runner next within stack free free_before =
    let before = thread_at scene t in
    let f : Frame = frame.Action b before.registers before.pc in
    let none : bit (is_some (barrier_at scene b).runner) ≡ 0 = ap (λ (r : Option ℕ). bit (is_some r)) idle in
    let one : bit (is_some gate.runner) ≡ 1 = ap (λ (r : Option ℕ). bit (is_some r)) runner in
    let most = least (is_action b f) in
    sound_beside program steps t b scene thread gate sound there here
    (record {
      pc = within;
      stack = subst (All (IsFrame program scene)) (sym stack)
          (All-push (IsFrame program scene) before.stack f (placed_at program steps scene t sound there).stack (next, here));
    })
    waits room
    (let pushed = entries-push (is_action b) before.stack f in rw stack (omega (arith, pushed, none, one, most)))
    (λ c apart.
    let pushed = entries-push (is_action c) before.stack f in
    let no : bit (is_action c f) ≡ 0 = ap bit (other-no b c apart) in
    rw stack (omega (arith, pushed, no)))
    (λ r. let pushed = entries-push (is_advance r) before.stack f in rw stack (omega (arith, pushed)))
    free free_before
