use Rattle.std.proofs.Common.{◌∙◌, rules, ap, sym}
use Rattle.packed_phaser.specs.Word.{record_of}
use Rattle.tier_tree.specs.{Forest.PhaserState, Stored.phasers_of}
use Rattle.tier_tree.proofs.Ascent.{own_line, counted_here, turned_here, none_here}
use Rattle.tier_tree.proofs.Changed.{there_shown, root-line}
use Rattle.tier_tree.proofs.Shown.{shown_at, root_shown, only_more, only_same}
use Rattle.tier_tree.proofs.climb.arrive.Goals as goal

pub returns-in-Counted-clause-arrival : goal.returns-in-Counted-clause-arrival
returns-in-Counted-clause-arrival c =
    let own = own_line c.args.nodes.now c.args.i c.requires.stored c.requires.there in
    let is = counted_here c.args.i c.args.leave own.0 (phasers_of c.args.nodes.now) (phasers_of c.set_word.new.nodes) (record_of c.in-Counted.word) own.2
    c.in-Counted.ensures c.set_word.ensures.present in
    search (rules, is)

pub returns-in-Counted-clause-only : goal.returns-in-Counted-clause-only
returns-in-Counted-clause-only c =
    let own = own_line c.args.nodes.now c.args.i c.requires.stored c.requires.there in
    only_more _ own.0 c.args.i c.args.nodes.now c.args.nodes.now c.set_word.new.nodes own.1 (only_same own.0 c.args.nodes.now) c.set_word.ensures.only

pub returns-else-root-i-clause-arrival : goal.returns-else-root-i-clause-arrival
returns-else-root-i-clause-arrival c =
    let forest = c.args.nodes.now in
    let line = ap (λ (p : PhaserState). p.line) (shown_at forest c.args.i c.requires.there)
    ∙ root-line forest c.args.i c.requires.stored c.requires.there (sym (root_shown forest c.args.i c.requires.there) ∙ sym c.root_of-root.ensures.root ∙ c.if-root-i.false) in
    let is = turned_here c.args.i c.root_of-root.result c.args.leave (phasers_of forest) (phasers_of c.set_word-in-Turned.new.nodes) (record_of c.in-Turned.word) line
    (there_shown forest c.args.i c.requires.there) c.root_of-root.ensures.root c.if-root-i.false c.in-Turned.ensures c.set_word-in-Turned.ensures.present in
    search (rules, is)

pub returns-else-root-i-clause-only : goal.returns-else-root-i-clause-only
returns-else-root-i-clause-only c =
    let own = own_line c.args.nodes.now c.args.i c.requires.stored c.requires.there in
    only_more _ own.0 c.args.i c.args.nodes.now c.args.nodes.now c.set_word-in-Turned.new.nodes own.1 (only_same own.0 c.args.nodes.now) c.set_word-in-Turned.ensures.only

pub returns-in-NotThere-clause-arrival : goal.returns-in-NotThere-clause-arrival
returns-in-NotThere-clause-arrival c =
    let own = own_line c.args.nodes.now c.args.i c.requires.stored c.requires.there in
    none_here c.args.i c.args.leave own.0 (phasers_of c.args.nodes.now) own.2 c.in-NotThere.ensures
