use Rattle.std.proofs.Common.{◌≡◌, ◌<◌, length}
use Rattle.pictures.specs.Picture.{missing_above, missing_for}
use Rattle.tier_tree.specs.Stored.{phasers_of}
use Rattle.pictures.proofs.closing.missing_for.Given as goal

abbrev pub invariant-loop-levels : goal.invariant-loop-levels
invariant-loop-levels l = record {
  there : l.at.0 < length l.forest;
  same : missing_above (phasers_of l.forest) l.at.0 l.levels ≡ missing_for (phasers_of l.forest) l.fn.id.0;
}

abbrev pub decreases-loop-levels : goal.decreases-loop-levels
decreases-loop-levels l = l.levels
