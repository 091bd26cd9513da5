-- What a turn has to keep, so that the scene after it is sound.
use Rattle.std.proofs.Common.{◌≡◌, ℕ, ◌+◌, ◌<◌, ◌≤◌, length, arith, rules, is_some, slice_set, count_by, length-set, get_or-set_same, get_or-set_other}
use Rattle.std.proofs.lemmas.{Bool.cases_eq, List.Elements.All-set, List.Elements.All-weaker}
use Rattle.tier_tree.specs.{Forest.flat_at, Forest.root_at, Trees.AreTrees, Trees.is_pending}
use Rattle.cyclic_barrier.specs.Barrier.{has_wait}
use Rattle.loader.specs.Program.{Program}
use Rattle.thread_state.specs.{Frame.is_advance, Frame.is_action, Thread.ThreadState}
use Rattle.machine_scene.specs.Scene.{Scene, thread_at, barrier_at}
use Rattle.machine_scene.specs.Sound.{IsPlaced, IsSound, bit, thread_awaits}
use Rattle.machine_scene.proofs.Entries.{entries-set}

-- a turn of thread t, this thread after it: entries are gained only where a root gets pending or a barrier a runner
pub record Keeps (program : Program) (most t : ℕ) (thread : ThreadState) (scene after : Scene) : Type 0 where
  pub threads : after.threads ≡ slice_set scene.threads t thread
  pub many : length after.phasers ≡ length scene.phasers
  pub roots : (id : ℕ) → root_at after.phasers id ≡ root_at scene.phasers id
  pub barriers : length after.barriers ≡ length scene.barriers
  pub trees : AreTrees most after.phasers
  pub placed : IsPlaced program scene thread
  pub advances : (root : ℕ) → root < length scene.phasers → root_at scene.phasers root ≡ root
      → count_by (is_advance root) thread.stack + bit (is_pending (flat_at scene.phasers root))
      ≤ count_by (is_advance root) (thread_at scene t).stack + bit (is_pending (flat_at after.phasers root))
  pub actions : (b : ℕ) → count_by (is_action b) thread.stack + bit (is_some (barrier_at scene b).runner)
      ≤ count_by (is_action b) (thread_at scene t).stack + bit (is_some (barrier_at after b).runner)
  pub room : (b : ℕ) → length (barrier_at after b).waits ≡ length (barrier_at scene b).waits
  pub waits : (b u : ℕ) → has_wait u (barrier_at after b) ≡ thread_awaits program b (thread_at after u)

pub sound_by : (program : Program) (steps most t : ℕ) (thread : ThreadState) (scene after : Scene) → IsSound program steps scene
    → t < length scene.threads → Keeps program most t thread scene after → IsSound program most after
sound_by program steps most t thread scene after sound there keeps = search (rules, length-set, All-weaker, All-set, entries-set)

-- the waits stay where no barrier's waits change, and thread t awaits the same as before
pub waits_same : (program : Program) (steps t : ℕ) (thread : ThreadState) (scene after : Scene) → IsSound program steps scene
    → t < length scene.threads → after.threads ≡ slice_set scene.threads t thread
    → ((b u : ℕ) → has_wait u (barrier_at after b) ≡ has_wait u (barrier_at scene b))
    → ((b : ℕ) → thread_awaits program b thread ≡ thread_awaits program b (thread_at scene t))
    → (b u : ℕ) → has_wait u (barrier_at after b) ≡ thread_awaits program b (thread_at after u)
waits_same program steps t thread scene after sound there threads seats same b u = grind (arith, cases_eq, get_or-set_same, get_or-set_other)
