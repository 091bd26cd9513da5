use Rattle.trace_compare.proofs.OwnLines.{Goes-more}
use Rattle.trace_compare.proofs.comparison.Comparison.take_own_lines.Goals as goal

pub loop-done-preserved : goal.loop-done-preserved
loop-done-preserved c = (
  Goes-more c.args.self.now c.loop-done.self c.take_own_line.new.self c.args.bytes.now c.rest_of.result.now c.loop-done.done
      c.in-Ok.count c.rest_of.ensures.rest c.loop-done.invariant.0 c.in-Ok.ensures.over,
  c.in-Ok.ensures.reading c.in-Ok.count-test.1,
)
