use Rattle.std.proofs.Common.{◌≡◌}
use Rattle.debugger.specs.Moves.{backs}
use Rattle.debugger.proofs.session.Debugger.back_by.Given as goal

-- so many were taken back
abbrev pub invariant-loop-done : goal.invariant-loop-done
invariant-loop-done l = l.self ≡ backs l._done l.initial.self
