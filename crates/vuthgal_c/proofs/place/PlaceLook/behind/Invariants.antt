use Rattle.std.proofs.Common.{◌≤◌, ◌+◌, take}
use Rattle.vuthgal_c.specs.Places.{IsBehind}
use Rattle.vuthgal_c.proofs.place.PlaceLook.behind.Given as goal

abbrev pub invariant-loop-byte : goal.invariant-loop-byte
invariant-loop-byte l =
    IsBehind (take l.byte-index l.front) l.line l.column × (l.line ≤ l.byte-index + 1) × (l.column ≤ l.byte-index + 1)
