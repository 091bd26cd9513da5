use Rattle.std.proofs.Common.{◌≡◌, ◌++◌, ℕ, All, map}
use Rattle.std.specs.Vec.Iter.{into_iter_items}
use Rattle.shared_phaser.specs.{declared.history.Kept.Kept, Known.phaser_of}
use Rattle.workbench.specs.Race.{AreMeetings, number_of}
use Rattle.workbench.proofs.racing.meeting.gather.Given as goal

-- what is left to join has the numbers that aren't joined yet
abbrev pub invariant-loop-handle : goal.invariant-loop-handle
invariant-loop-handle g l = record {
  number : l.first.known.number ≡ 0;
  phaser : phaser_of l.first ≡ l.phaser;
  splits : l.first.known.splits ≡ l.fn.first.known.splits;
  calls : l.first.known.calls ≡ l.fn.first.known.calls;
  running : All (λ h. phaser_of h.promise.caller.value ≡ l.phaser) (into_iter_items l.handle-iterator);
  numbers : map (λ (k : Kept). k.number) l.first.known.joined
      ++ map (λ h. number_of h.promise.caller.value) (into_iter_items l.handle-iterator)
      ≡ map (λ (k : Kept). k.number) l.fn.first.known.joined
      ++ map (λ h. number_of h.promise.caller.value) l.fn.running.items;
  met : (rounds : ℕ) → All (λ h. h.promise.rounds ≡ rounds) l.fn.running.items
      → All (λ (k : Kept). AreMeetings k.number rounds k.calls) l.fn.first.known.joined
      → All (λ h. h.promise.rounds ≡ rounds) (into_iter_items l.handle-iterator)
      × All (λ (k : Kept). AreMeetings k.number rounds k.calls) l.first.known.joined;
}
