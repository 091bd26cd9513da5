use Rattle.std.proofs.Common.{◌≡◌, ◌≤◌}
use Rattle.debugger.specs.Moves.{backs}
use Rattle.headline.proofs.back.backs.Given as goal

abbrev pub invariant-loop : goal.invariant-loop
invariant-loop l = (l.debugger ≡ backs l.counter l.initial.debugger) × (l.counter ≤ l.count)
