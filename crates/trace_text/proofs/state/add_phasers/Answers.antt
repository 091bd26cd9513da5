use Rattle.std.proofs.Common.{◌∙◌, ◌<◌, ◌≤◌, length, subst, sym}
use Rattle.std.proofs.lemmas.List.{length-map}
use Rattle.tier_tree.specs.{Forest.no_phaser, Stored.phasers_of, Stored.shown}
use Rattle.trace_text.specs.State.{phaser_text}
use Rattle.trace_text.proofs.Traces.{all_numbered, one_numbered_more}
use Rattle.trace_text.proofs.state.add_phasers.Goals as goal

pub loop-number-preserved : goal.loop-number-preserved
loop-number-preserved c =
    let forest = c.args.forest.now in
    let i = c.loop-number.number in
    let count = c.len-number-end.ensures ∙ sym (length-map forest (shown forest)) in
    let there : i < length (phasers_of forest) = subst (λ n. i < n) count c.loop-number-test.true in
    one_numbered_more phaser_text (phasers_of forest) i no_phaser c.loop-number.text.items c.add_phaser.new.text.items
    c.args.text.now.items there c.in_ok-add_phaser.ensures c.loop-number.invariant

pub returns : goal.returns
returns c =
    let forest = c.args.forest.now in
    let i = c.loop-number.number in
    let count = c.len-number-end.ensures ∙ sym (length-map forest (shown forest)) in
    let none : length (phasers_of forest) ≤ i = subst (λ n. n ≤ i) count c.loop-number-test.false in
    all_numbered phaser_text (phasers_of forest) i c.loop-number.text.items c.args.text.now.items none c.loop-number.invariant
