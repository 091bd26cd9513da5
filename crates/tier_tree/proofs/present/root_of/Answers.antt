use Rattle.tier_tree.proofs.Changed.{root_read}
use Rattle.tier_tree.proofs.present.root_of.Goals as goal

pub returns-clause-within : goal.returns-clause-within
returns-clause-within c =
    (root_read c.args.nodes.now c.args.i c.root.result c.index-nodes-i.result c.index-nodes-i.is c.root.ensures c.requires.stored c.requires.there).0

pub returns-clause-top : goal.returns-clause-top
returns-clause-top c =
    (root_read c.args.nodes.now c.args.i c.root.result c.index-nodes-i.result c.index-nodes-i.is c.root.ensures c.requires.stored c.requires.there).1
