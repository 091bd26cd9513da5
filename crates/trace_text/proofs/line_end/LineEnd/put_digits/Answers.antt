use Rattle.trace_text.proofs.LineEnds.{copied_block}
use Rattle.trace_text.proofs.line_end.LineEnd.put_digits.Goals as goal

pub returns-clause-text : goal.returns-clause-text
returns-clause-text c =
    copied_block c.self.inside.bytes _ _ c.args.self.now c.self.inside.start c.args.digits.now c.count.result c.self.told
    c.self.invariant c.self.view_is c.requires c.copy_from_slice.ensures.after c.block.ensures.length c.block.ensures.digits
    c.count.ensures.digits c.count.ensures.few
