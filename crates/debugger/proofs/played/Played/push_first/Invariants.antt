use Rattle.std.proofs.Common.{◌≡◌, ◌++◌, All, drop, take}
use Rattle.schedule_reader.specs.Schedule.{IsRun, choices_of}
use Rattle.debugger.proofs.played.Played.push_first.Given as goal

-- what was pushed and what is left to push are all that is to be
abbrev pub invariant-loop-run : goal.invariant-loop-run
invariant-loop-run l = record {
  choices : choices_of l.self ++ take l.left (choices_of (drop l.run-index l.runs))
      ≡ choices_of l.fn.self ++ take l.fn.count (choices_of l.fn.runs);
  runs : All IsRun l.fn.runs → All IsRun l.fn.self → All IsRun l.self;
}
