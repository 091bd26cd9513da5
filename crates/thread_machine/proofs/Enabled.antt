-- The choices that are steps, as sets of threads.
use Rattle.std.proofs.Common.{◌≡◌, ℕ, arith, ◌≤◌, false, length}
use Rattle.std.proofs.Math.ListN.{get_or-eq_default}
use Rattle.cyclic_barrier.specs.ThreadSet.{has}
use Rattle.loader.specs.Program.{Program}
use Rattle.machine_scene.specs.{Scene.Scene, Scene.no_thread, Scene.thread_at, Outcomes.is_ready}
use Rattle.machine_scene.proofs.{ReadySets.none_ready, ThreadSets.IsFilledTo, ThreadSets.filled_all}
use Rattle.thread_machine.specs.Ready.{can_expire}

-- a thread that isn't there
nobody_there : (u : ℕ) (scene : Scene) → length scene.threads ≤ u → thread_at scene u ≡ no_thread
nobody_there u scene beyond = get_or-eq_default scene.threads no_thread beyond

none_expires : (u : ℕ) (program : Program) (scene : Scene) → length scene.threads ≤ u → can_expire u program scene ≡ false
none_expires u program scene beyond = grind (arith, nobody_there, none_ready)

-- all threads are in the sets where they belong
pub all_turns : (program : Program) (k set : ℕ) (scene : Scene) → IsFilledTo (λ u. is_ready u program scene) k set
    → length scene.threads ≤ k → (u : ℕ) → has set u ≡ is_ready u program scene
all_turns program k set scene filled whole u = grind (arith, filled_all, none_ready)

pub all_expiries : (program : Program) (k set : ℕ) (scene : Scene) → IsFilledTo (λ u. can_expire u program scene) k set
    → length scene.threads ≤ k → (u : ℕ) → has set u ≡ can_expire u program scene
all_expiries program k set scene filled whole u = grind (arith, filled_all, none_expires)
