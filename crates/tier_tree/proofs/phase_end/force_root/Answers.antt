use Rattle.tier_tree.proofs.Shown.{forces, forces_read}
use Rattle.tier_tree.proofs.phase_end.force_root.Goals as goal

pub returns-clause-present : goal.returns-clause-present
returns-clause-present c =
    (forces c.args.nodes.now c.args.root c.force-word.result c.index-nodes-root-2.result c.set_word.new.self c.set_word.ensures
    c.requires.stored c.requires.there c.requires.root
    (forces_read c.args.nodes.now c.args.root c.force-word.result c.word.result c.index-nodes-root.result c.requires.there
    c.word.ensures c.force-word.ensures.record)).shows

pub returns-clause-stored : goal.returns-clause-stored
returns-clause-stored c =
    (forces c.args.nodes.now c.args.root c.force-word.result c.index-nodes-root-2.result c.set_word.new.self c.set_word.ensures
    c.requires.stored c.requires.there c.requires.root
    (forces_read c.args.nodes.now c.args.root c.force-word.result c.word.result c.index-nodes-root.result c.requires.there
    c.word.ensures c.force-word.ensures.record)).stored
