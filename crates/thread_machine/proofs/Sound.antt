-- A machine stays one.
use Rattle.std.proofs.Common.{◌≡◌, List, map, replicate, pos, ◌+◌, ◌<◌, ◌≤◌, ℕ, arith, None}
use Rattle.tier_tree.specs.Stored.{Stored, phasers_of, IsStored}
use Rattle.cyclic_barrier.specs.Barrier.{BarrierState}
use Rattle.thread_state.specs.Thread.{ThreadState}
use Rattle.loader.specs.Program.{Program, IsProgram}
use Rattle.machine_scene.specs.Scene.{Scene, StoredScene, scene_of, starting, first_scene}
use Rattle.machine_scene.specs.{Sound.IsSound, ReadySet.KnowsReady}
use Rattle.machine_scene.proofs.Start.{sound_start}
use Rattle.thread_machine.specs.{World.StoredWorld, Sound.IsMachine, Undo.CanUndo}

-- the world of these parts
abbrev pub world_with : Program → ℕ → StoredScene → ℕ → ℕ → StoredWorld
world_with program limit scene choices steps =
    record { program = program; limit = limit; scene = scene; choices = choices; steps = steps }

-- after an effective step
pub one_step_more : (program : Program) (limit choices steps : ℕ) (before after : StoredScene)
    → IsMachine (world_with program limit before choices steps) → steps < limit → choices < 1000000000000
    → (steps < 2147483646 → IsSound program steps (scene_of before) → IsSound program (steps + 1) (scene_of after))
    → KnowsReady program after → IsMachine (world_with program limit after (choices + 1) (steps + 1))
one_step_more program limit choices steps before after machine left more sound ready = grind arith

-- a scene of the parts that a program begins with
pub first_parts : (program : Program) (steps : ℕ) (threads : List ThreadState) (phasers : List Stored) (barriers : List BarrierState)
    → IsSound program steps (first_scene program) → threads ≡ map starting program.threads → phasers ≡ program.phasers
    → barriers ≡ program.barriers
    → let scene : Scene = record { cells = replicate 32 (pos 0); threads = threads; phasers = phasers_of phasers; barriers = barriers } in
    IsSound program steps scene
first_parts program steps threads phasers barriers sound same_threads same_phasers same_barriers = grind arith

-- before the first choice
pub machine_starts : (program : Program) (limit : ℕ) (scene : StoredScene) → IsProgram program → IsStored program.phasers
    → limit ≤ 1000000000 → scene_of scene ≡ first_scene program → KnowsReady program scene → IsMachine (world_with program limit scene 0 0)
machine_starts program limit scene whole stored most is known = grind (arith, sound_start)

-- an idle choice can be undone
pub idle_undone : (world after : StoredWorld) → IsMachine world → after ≡ record world { choices = world.choices + 1 } → CanUndo None after
idle_undone world after machine is = grind arith
