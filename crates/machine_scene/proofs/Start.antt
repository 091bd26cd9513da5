-- The first scene of a loaded program is sound.
use Rattle.std.proofs.Common.{◌≡◌, ◌≤◌, ◌∙◌, ℕ, zero, suc, Bool, false, List, [], ◌∷◌, length, map, replicate, get_or, ap, refl, sym, arith, is_some, Option, None, All}
use Rattle.std.proofs.lemmas.{Bool.cases_lt, List.length-map, List.length-replicate, List.get_or-replicate, List.get_or_past}
use Rattle.std.proofs.lemmas.List.Elements.{All-map}
use Rattle.tier_tree.specs.{Forest.PhaserState, Sound.IsForest, Stored.phasers_of, Stored.IsStored}
use Rattle.tier_tree.proofs.Shown.{length-shown}
use Rattle.cyclic_barrier.specs.{declared.answer.WaitState.WaitState, Waits.wait_at}
use Rattle.cyclic_barrier.specs.Barrier.{BarrierState, has_wait, fresh}
use Rattle.row_code.specs.declared.threads.DeclaredThread.{DeclaredThread}
use Rattle.loader.specs.Program.{Program, AreNewBarriers, AreNewTrees, CanStart, IsCode, IsProgram, IsNewBarrier, row_at}
use Rattle.thread_state.specs.{declared.frame.Frame.Frame, Frame.is_advance, Frame.is_action}
use Rattle.machine_scene.specs.Scene.{Scene, counts_of, no_thread, thread_at, starting, first_scene}
use Rattle.machine_scene.specs.Sound.{IsPlaced, IsSound, entries}
use Rattle.machine_scene.proofs.Facts.{IsFree, RunsOn, EndsOn, free_awaits}

-- nobody has an entry yet
no_entries : (test : Frame → Bool) (threads : List DeclaredThread) → entries test (map starting threads) ≡ 0
no_entries test [] = refl
no_entries test (thread ∷ threads) = let rest = no_entries test threads in omega (arith, rest)

-- a barrier of the first scene is new, also where there is none
new_at : (barriers : List BarrierState) (b : ℕ) → All IsNewBarrier barriers → IsNewBarrier (get_or barriers b (fresh 1 false))
new_at barriers b new = grind (arith, cases_lt, get_or_past)

-- nobody waits at a new barrier
none_waits : (n t : ℕ) → is_some (wait_at (replicate n None) t) ≡ false
none_waits n t = grind (arith, cases_lt, get_or-replicate, length-replicate, get_or_past)

-- the thread of each number runs at its first row, or isn't there
starts_free : (threads : List DeclaredThread) (t : ℕ) → IsFree (get_or (map starting threads) t no_thread).status
starts_free [] t = EndsOn
starts_free (thread ∷ threads) zero = RunsOn
starts_free (thread ∷ threads) (suc t) = starts_free threads t

-- a scene with these phasers in which a program begins
abbrev pub first_scene_with : Program → List PhaserState → Scene
first_scene_with program phasers = record (first_scene program) { phasers = phasers }

pub sound_with : (program : Program) (phasers : List PhaserState) → IsCode program (counts_of program (first_scene_with program phasers))
    → CanStart (length program.rows) program.threads → AreNewBarriers program.barriers → AreNewTrees phasers → IsForest phasers
    → IsSound program 0 (first_scene_with program phasers)
sound_with program phasers code threads barriers trees forest =
    let scene : Scene = first_scene_with program phasers in
    let heads : length scene.threads ≡ length program.threads = length-map program.threads starting in
    let few = threads.few in
    record {
      code = code;
      few_threads = omega (arith, heads, few);
      few_barriers = barriers.few;
      trees = record {
        forest = forest;
        stands = (trees.stands.0, trees.stands.2);
        ends = λ id. let none = trees.ends id in omega (arith, none);
      };
      placed = All-map (IsPlaced program scene) starting program.threads (λ k d there. record {
        pc = threads.begin k d there;
        stack = λ j f none. absurd (omega (arith, none));
      });
      advances = λ root within top. let none = no_entries (is_advance root) program.threads in omega (arith, none);
      actions = λ b. let none = no_entries (is_action b) program.threads in omega (arith, none);
      room = λ b within. ap (λ (g : BarrierState). length g.waits) (new_at program.barriers b barriers.fresh)
          ∙ length-replicate {A = Option WaitState} 64 None;
      waits = λ b t. ap (has_wait t) (new_at program.barriers b barriers.fresh) ∙ none_waits 64 t
          ∙ sym (free_awaits b (thread_at scene t).status (row_at program.rows (thread_at scene t).pc) (starts_free program.threads t));
    }

pub sound_start : (program : Program) → IsProgram program → IsForest (phasers_of program.phasers) → IsSound program 0 (first_scene program)
sound_start program is forest = grind (arith, length-map, length-shown, sound_with)

-- more steps may have been taken
pub sound_with_more : (program : Program) (scene : Scene) (steps more : ℕ) → steps ≤ more → IsSound program steps scene
    → IsSound program more scene
sound_with_more program scene steps more most sound = grind arith

pub first_scene_is_sound : (program : Program) → IsProgram program → IsStored program.phasers → (steps : ℕ)
    → IsSound program steps (first_scene program)
first_scene_is_sound program whole stored steps = grind (arith, sound_with_more, sound_start)
