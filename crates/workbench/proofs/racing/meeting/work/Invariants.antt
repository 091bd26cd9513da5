use Rattle.workbench.specs.Race.{HasMet}
use Rattle.workbench.proofs.racing.meeting.work.Given as goal

-- a meeting a turn
abbrev pub invariant-loop : goal.invariant-loop
invariant-loop g l = HasMet l.initial.party l.counter l.party
