-- Arrivals: the exception that they meet before they come to a phaser.
use Rattle.std.proofs.Common.{◌≡◌, ℕ, ℤ, ◌&&◌, false, [], arith, Some, None}
use Rattle.loader.specs.Program.{Program}
use Rattle.thread_state.specs.Thread.{ThreadState, is_full, turn_of_throw}
use Rattle.machine_scene.specs.{declared.manner.Manner.Manner, Scene.Scene, Scene.thread_at, Scene.outcome_of_turn}
use Rattle.machine_scene.specs.PhaserRows.{has_routine, unless_own, outcome_with_room, outcome_of_arrival, refusal_of_arrival}

-- a thread with an empty stack comes to it
pub free : (p : ℕ) (thread : ThreadState) (scene : Scene) → thread.stack ≡ [] → refusal_of_arrival p thread scene ≡ None
free p thread scene empty = grind arith

-- one that meets an exception throws it
pub refused : (manner : Manner) (p t : ℕ) (program : Program) (scene : Scene) (code : ℤ)
    → refusal_of_arrival p (thread_at scene t) scene ≡ Some code
    → unless_own p t scene (Some (outcome_of_arrival manner p t program scene))
    ≡ Some (outcome_of_turn (turn_of_throw code (thread_at scene t)) t scene)
refused manner p t program scene code is = grind arith

-- any other comes to it
pub comes : (manner : Manner) (p t : ℕ) (program : Program) (scene : Scene) → refusal_of_arrival p (thread_at scene t) scene ≡ None
    → unless_own p t scene (Some (outcome_of_arrival manner p t program scene)) ≡ Some (outcome_with_room manner p t program scene)
comes manner p t program scene is = grind arith

-- with room for a routine, where there is one
pub room : (p t : ℕ) (scene : Scene) → refusal_of_arrival p (thread_at scene t) scene ≡ None
    → (has_routine p scene && is_full (thread_at scene t)) ≡ false
room p t scene is = grind arith
