use Rattle.tier_tree.proofs.Shown.{puts_read}
use Rattle.tier_tree.proofs.present.set_word.Goals as goal

pub returns-clause-present : goal.returns-clause-present
returns-clause-present c =
    (puts_read c.args.nodes.now c.args.i c.args.word c.index-nodes-i.result c.set_word.new.self c.set_word.ensures c.requires.stored
    c.requires.there c.requires.phase c.requires.before c.requires.live).shows

pub returns-clause-stored : goal.returns-clause-stored
returns-clause-stored c =
    (puts_read c.args.nodes.now c.args.i c.args.word c.index-nodes-i.result c.set_word.new.self c.set_word.ensures c.requires.stored
    c.requires.there c.requires.phase c.requires.before c.requires.live).stored
