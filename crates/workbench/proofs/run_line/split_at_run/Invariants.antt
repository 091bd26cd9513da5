use Rattle.std.proofs.Common.{◌≡◌, ◌-◌, ◌≤◌, ◌++◌, length, take, drop}
use Rattle.workbench.specs.RunLine.{program_part, schedule_part}
use Rattle.workbench.proofs.run_line.split_at_run.Given as goal

-- no line so far is a run line
abbrev pub invariant-loop-rest : goal.invariant-loop-rest
invariant-loop-rest l = record {
  within : length l.rest ≤ length l.bytes;
  rest : l.rest ≡ drop (length l.bytes - length l.rest) l.bytes;
  text : program_part l.bytes ≡ take (length l.bytes - length l.rest) l.bytes ++ program_part l.rest;
  schedule : schedule_part l.bytes ≡ schedule_part l.rest;
}

abbrev pub decreases-loop-rest : goal.decreases-loop-rest
decreases-loop-rest l = length l.rest
