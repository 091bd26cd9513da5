use Rattle.std.proofs.Common.{◌≡◌, ◌++◌, take}
use Rattle.commands.proofs.enough.Front.with_bytes.Given as goal

-- the bytes before it were taken
abbrev pub invariant-loop-byte : goal.invariant-loop-byte
invariant-loop-byte l = l.front ≡ l.fn.self ++ take l.byte-index l.fn.piece
