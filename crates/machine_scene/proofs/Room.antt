-- Where a tree has a routine, an arrival that begins it found room on its thread's stack.
use Rattle.std.proofs.Common.{◌≡◌, ℕ, Bool, false, arith, None, ◌&&◌}
use Rattle.packed_phaser.specs.{declared.policy.Policy.Policy, Policy.ends}
use Rattle.tier_tree.specs.{Forest.root_at, Answer.KeepsPlaces}
use Rattle.tier_tree.proofs.Trees.{policy_same}
use Rattle.thread_state.specs.Thread.{is_full}
use Rattle.machine_scene.specs.Scene.{Scene, thread_at}
use Rattle.machine_scene.specs.PhaserRows.{is_routine_policy, has_routine, answer_of_policy}

-- the policy that leaves the answer to a routine is the routine
pub room_by : (own : Policy) (phase parties : ℕ) (full : Bool) → (is_routine_policy own && full) ≡ false
    → ends own phase parties ≡ None → full ≡ false
room_by own phase parties full room none = grind arith

-- after an arrival at p that turned its root
pub room_left : (scene after : Scene) (p root t : ℕ) → (has_routine p scene && is_full (thread_at scene t)) ≡ false
    → KeepsPlaces scene.phasers after.phasers → root ≡ root_at scene.phasers p → after.threads ≡ scene.threads
    → answer_of_policy root after ≡ None → is_full (thread_at after t) ≡ false
room_left scene after p root t room keeps top same none = grind (arith, policy_same, room_by)
