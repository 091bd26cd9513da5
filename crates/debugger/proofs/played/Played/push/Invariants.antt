use Rattle.std.proofs.Common.{◌≡◌, ◌-◌, ◌≤◌, ◌++◌, All, replicate}
use Rattle.schedule_reader.specs.Schedule.{IsRun, choices_of}
use Rattle.debugger.proofs.played.Played.push.Given as goal

-- what was pushed, and how often the choice is left to push
abbrev pub invariant-loop-left : goal.invariant-loop-left
invariant-loop-left l = record {
  left : l.left ≤ l.run.times;
  choices : choices_of l.self ≡ choices_of l.fn.self ++ replicate (l.run.times - l.left) l.run.choice;
  runs : l.run.choice.thread ≤ 63 → All IsRun l.fn.self → All IsRun l.self;
}

abbrev pub decreases-loop-left : goal.decreases-loop-left
decreases-loop-left l = l.left
