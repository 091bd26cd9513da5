use Rattle.std.proofs.Common.{◌-◌, arith}
use Rattle.tier_tree.proofs.Ascent.{one_lower}
use Rattle.tier_tree.proofs.climb.write.Goals as goal

pub loop-low-preserved : goal.loop-low-preserved
loop-low-preserved c =
    let within = c.loop-low.invariant.0 in
    let some = c.loop-low-test.true in
    let room = c.requires.words in (
      omega (arith, within),
      one_lower c.args.line.now c.args.words.now c.loop-low.low (c.loop-low.low - 1) c.index-words-low.result c.args.nodes.now c.loop-low.nodes c.set_word.new.nodes
          (omega (arith, some)) (omega (arith, within, some)) (omega (arith, within, some, room)) c.index-words-low.is c.requires.live c.requires.phase c.loop-low.invariant.1
          c.set_word.ensures.present c.set_word.ensures.stored c.set_word.ensures.only,
    )
