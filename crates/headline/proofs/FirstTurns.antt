-- Before its first choice no program is over that may take a step: nobody has to wait yet.
use Rattle.std.proofs.Common.{◌≡◌, ◌∙◌, ◌<◌, ℕ, zero, suc, false, List, [], ◌∷◌, length, map, None, refl, ap, arith, ◌≢◌, slice_index_or}
use Rattle.std.proofs.lemmas.List.{length-map}
use Rattle.std.specs.List.{list_all, list_any}
use Rattle.instruction_table.specs.declared.row.Row.{Row}
use Rattle.packed_phaser.specs.Flat.{Flat}
use Rattle.tier_tree.specs.{Declaration.AreAllFresh, Forest.PhaserState, Forest.flat_at}
use Rattle.tier_tree.specs.Registration.{Join, is_turned}
use Rattle.cyclic_barrier.specs.Barrier.{fresh}
use Rattle.row_code.specs.declared.{image.Image.Image, barriers.DeclaredBarrier.DeclaredBarrier}
use Rattle.row_code.specs.declared.threads.DeclaredThread.{DeclaredThread}
use Rattle.loader.specs.Declarations.{new_barrier}
use Rattle.loader.proofs.{Images.all_made, Search.none_left}
use Rattle.thread_state.specs.declared.status.Status.TheVariants as status
use Rattle.thread_state.specs.Thread.{ThreadState, is_finished}
use Rattle.machine_scene.specs.{Ready.is_blocked, Scene.Scene, Scene.barrier_at, Scene.no_thread, Scene.starting}
use Rattle.machine_scene.proofs.ReadyThreads.{ready_as_listed}
use Rattle.thread_machine.specs.{declared.choice.Choice.Choice, Ready.all_finished, World.World}
use Rattle.thread_machine.proofs.Readiness.{one_ready}
use Rattle.thread_runner.specs.Endings.{ending_of}
use Rattle.workbench.specs.Live.{IsRecorded}
use Rattle.headline.specs.Headline.{Accepted}

-- no phase is about to end where all phasers are fresh
fresh_unturned : (phasers : List PhaserState) → AreAllFresh phasers → (id : ℕ) → (flat_at phasers id).turned ≡ false
fresh_unturned [] are id = refl
fresh_unturned (phaser ∷ phasers) are zero = ap (λ (flat : Flat). flat.turned) (are 0 phaser (omega arith))
fresh_unturned (phaser ∷ phasers) are (suc id) = fresh_unturned phasers (λ k d there. are (suc k) d (omega (arith, there))) id

none_turned : (phasers : List PhaserState) (all : List Join) → ((id : ℕ) → (flat_at phasers id).turned ≡ false)
    → list_any (is_turned phasers) all ≡ false
none_turned phasers [] none = refl
none_turned phasers (join ∷ all) none = grind (arith, none_turned phasers all none)

-- no thread runs a barrier's action
new_idle : (barriers : List DeclaredBarrier) (b : ℕ) → (slice_index_or (map new_barrier barriers) b (fresh 1 false)).runner ≡ None
new_idle (barrier ∷ barriers) (suc b) = new_idle barriers b
new_idle _ _ = refl

-- nobody has come to a phaser or a barrier yet, and each thread runs
record NobodyCame (scene : Scene) : Type 0 where
  pub threads : List DeclaredThread
  pub one : 0 < length threads
  pub begin : scene.threads ≡ map starting threads
  pub unturned : (id : ℕ) → (flat_at scene.phasers id).turned ≡ false
  pub idle : (b : ℕ) → (barrier_at scene b).runner ≡ None

goes_by : (row : Row) (t : ℕ) (scene : Scene) → NobodyCame scene → is_blocked row t scene ≡ false
goes_by row t scene none = grind (arith, none_turned)

runs_by : (threads : List DeclaredThread) → 0 < length threads → (slice_index_or (map starting threads) 0 no_thread).status ≡ status.Runs
runs_by [] one = absurd (omega (arith, one))
runs_by (thread ∷ threads) one = refl

-- the first thread's turn is ready, whatever its row is
unfinished_by : (threads : List DeclaredThread) → 0 < length threads
    → list_all (λ (thread : ThreadState). is_finished thread.status) (map starting threads) ≡ false
unfinished_by [] one = absurd (omega (arith, one))
unfinished_by (thread ∷ threads) one = refl

unfinished : (scene : Scene) → NobodyCame scene → all_finished scene ≡ false
unfinished scene none =
    ap (λ threads. list_all (λ (thread : ThreadState). is_finished thread.status) threads) none.begin ∙ unfinished_by none.threads none.one

-- so the run goes on
not_over : (world : World) → NobodyCame world.scene → world.steps < world.limit → ending_of world ≡ None
not_over world none less = grind (arith, length-map, ready_as_listed, goes_by, runs_by, unfinished, one_ready)

-- a live run of an accepted program makes a choice where it may take a step
pub chooses : (limit : ℕ) (image : Image) (choices : List Choice) → 0 < limit → Accepted image → IsRecorded image limit choices → choices ≢ []
chooses limit image choices some accepted given none = grind (arith, not_over, none_left, fresh_unturned, all_made, new_idle)
