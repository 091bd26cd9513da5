use Rattle.std.proofs.Common.{◌∙◌}
use Rattle.tier_tree.proofs.{Shown.root_shown, Changed.only_root}
use Rattle.tier_tree.proofs.phase_end.force_tree.Goals as goal

pub returns-clause-only : goal.returns-clause-only
returns-clause-only c =
    only_root c.args.nodes.now c.force_root.new.nodes c.args.i c.root_of-root.result c.requires.stored c.requires.there
    (c.root_of-root.ensures.root ∙ root_shown c.args.nodes.now c.args.i c.requires.there) c.force_root.ensures.only
