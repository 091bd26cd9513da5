use Rattle.machine_scene.specs.{Scene.scene_of, Outcomes.is_ready}
use Rattle.machine_scene.proofs.ThreadSets.{IsFilledTo}
use Rattle.thread_machine.specs.Ready.{can_expire}
use Rattle.thread_machine.proofs.machine.Machine.enabled.Given as goal

-- the threads so far are in the sets where they belong
abbrev pub invariant-loop-t : goal.invariant-loop-t
invariant-loop-t l =
    IsFilledTo (λ u. is_ready u l.self.program (scene_of l.self.scene)) l.t l.turns
    × IsFilledTo (λ u. can_expire u l.self.program (scene_of l.self.scene)) l.t l.expiries
