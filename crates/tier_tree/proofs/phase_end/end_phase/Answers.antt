use Rattle.std.proofs.Common.{◌∙◌, ap}
use Rattle.packed_phaser.specs.Flat.{advance}
use Rattle.tier_tree.proofs.Shown.{turns}
use Rattle.tier_tree.proofs.phase_end.end_phase.Goals as goal

pub returns-clause-present : goal.returns-clause-present
returns-clause-present c =
    (turns c.args.nodes.now c.args.root c.advance-word.result c.args.ends c.index-nodes-root.result c.end_phase.new.self c.end_phase.ensures
    c.requires.stored c.requires.there c.requires.root c.requires.live c.requires.ends
    (c.advance-word.ensures.record ∙ ap (advance c.args.ends) c.root_word_at.ensures)).shows

pub returns-clause-stored : goal.returns-clause-stored
returns-clause-stored c =
    (turns c.args.nodes.now c.args.root c.advance-word.result c.args.ends c.index-nodes-root.result c.end_phase.new.self c.end_phase.ensures
    c.requires.stored c.requires.there c.requires.root c.requires.live c.requires.ends
    (c.advance-word.ensures.record ∙ ap (advance c.args.ends) c.root_word_at.ensures)).stored
