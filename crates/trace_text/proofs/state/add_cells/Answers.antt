use Rattle.std.proofs.Common.{rules, ◌≡◌, ◌++◌, get_or, pos}
use Rattle.trace_text.specs.State.{cell_text}
use Rattle.trace_text.proofs.Traces.{all_numbered, one_numbered_more}
use Rattle.trace_text.proofs.state.add_cells.Goals as goal

pub loop-number-preserved : goal.loop-number-preserved
loop-number-preserved c =
    let i = c.loop-number.number in
    let text = c.loop-number.text.items in
    let next = c.add_cell.new.text.items in
    let more : next ≡ text ++ cell_text i (get_or c.args.cells.now i (pos 0)) = search rules in
    one_numbered_more cell_text c.args.cells.now i (pos 0) text next c.args.text.now.items c.loop-number-test.true more
    c.loop-number.invariant

pub returns : goal.returns
returns c =
    all_numbered cell_text c.args.cells.now c.loop-number.number c.loop-number.text.items c.args.text.now.items
    c.loop-number-test.false c.loop-number.invariant
