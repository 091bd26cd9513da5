use Rattle.std.proofs.Common.{◌≡◌, All, map}
use Rattle.std.specs.List.{range_with_len}
use Rattle.workbench.specs.Race.{IsFresh, number_of}
use Rattle.workbench.proofs.racing.meeting.callers.Given as goal

-- a caller a turn, each with the next number
abbrev pub invariant-loop : goal.invariant-loop
invariant-loop l = record {
  number : l.first.known.number ≡ 0;
  splits : l.first.known.splits ≡ l.counter;
  fresh : IsFresh l.phaser l.first;
  callers : All (IsFresh l.phaser) l.callers.items;
  numbers : map number_of l.callers.items ≡ range_with_len 1 l.counter;
}
