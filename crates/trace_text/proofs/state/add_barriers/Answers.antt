use Rattle.std.proofs.Common.{◌∙◌, ◌++◌, ◌<◌, ◌≤◌, ap, length, subst}
use Rattle.trace_text.specs.State.{barrier_text}
use Rattle.trace_text.proofs.Traces.{all_numbered, one_numbered_more}
use Rattle.trace_text.proofs.state.add_barriers.Goals as goal

pub loop-number-preserved : goal.loop-number-preserved
loop-number-preserved c =
    let barriers = c.args.machine.now.scene.barriers in
    let i = c.loop-number.number in
    let there : i < length barriers = subst (λ n. i < n) c.barrier_count-number-end.ensures.count c.loop-number-test.true in
    one_numbered_more barrier_text barriers i _ c.loop-number.text.items c.add_barrier.new.text.items c.args.text.now.items there
    (c.in_ok-add_barrier.ensures ∙ ap (λ barrier. c.loop-number.text.items ++ barrier_text i barrier) c.barrier.ensures)
    c.loop-number.invariant

pub returns : goal.returns
returns c =
    let barriers = c.args.machine.now.scene.barriers in
    let i = c.loop-number.number in
    let none : length barriers ≤ i = subst (λ n. n ≤ i) c.barrier_count-number-end.ensures.count c.loop-number-test.false in
    all_numbered barrier_text barriers i c.loop-number.text.items c.args.text.now.items none c.loop-number.invariant
