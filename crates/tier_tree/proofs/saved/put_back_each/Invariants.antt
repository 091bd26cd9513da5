use Rattle.std.proofs.Common.{◌≡◌, map, drop}
use Rattle.tier_tree.specs.Undo.{kept_by, restored}
use Rattle.tier_tree.proofs.saved.put_back_each.Given as goal

abbrev pub invariant-loop-one : goal.invariant-loop-one
invariant-loop-one l =
    restored (map kept_by (drop l.one-index l.kept)) l.nodes ≡ restored (map kept_by l.kept) l.initial.nodes
