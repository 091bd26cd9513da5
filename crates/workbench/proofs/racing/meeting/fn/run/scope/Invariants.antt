use Rattle.std.proofs.Common.{◌≡◌, ◌+◌, ◌≤◌, ◌++◌, All, length, map, vec_capacity}
use Rattle.std.specs.Vec.Iter.{into_iter_items}
use Rattle.shared_phaser.specs.Known.{phaser_of}
use Rattle.workbench.specs.Race.{IsFresh, number_of}
use Rattle.workbench.proofs.racing.meeting.fn.run.scope.Given as goal

-- who runs and who is left have the numbers of all
abbrev pub invariant-loop-caller : goal.invariant-loop-caller
invariant-loop-caller g l = record {
  number : l.first.known.number ≡ 0;
  phaser : phaser_of l.first ≡ l.phaser;
  kept : l.first ≡ l.initial.first;
  callers : All (IsFresh l.phaser) (into_iter_items l.caller-iterator);
  running : All (λ h. phaser_of h.promise.caller.value ≡ l.phaser) l.running.items;
  rounds : All (λ h. h.promise.rounds ≡ l.rounds) l.running.items;
  numbers : map (λ h. number_of h.promise.caller.value) l.running.items ++ map number_of (into_iter_items l.caller-iterator)
      ≡ map number_of (into_iter_items l.initial.caller-iterator);
  count : length l.running.items + length (into_iter_items l.caller-iterator) ≡ length (into_iter_items l.initial.caller-iterator);
  room : length (into_iter_items l.initial.caller-iterator) ≤ vec_capacity l.running;
}
