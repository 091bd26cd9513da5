use Rattle.std.proofs.Common.{◌≡◌, map, take}
use Rattle.tier_tree.specs.Undo.{kept_by, kept_at}
use Rattle.tier_tree.proofs.saved.keep_line.Given as goal

abbrev pub invariant-loop-i : goal.invariant-loop-i
invariant-loop-i l = map kept_by (take l.i l.kept) ≡ map (kept_at l.nodes) (take l.i l.line)
