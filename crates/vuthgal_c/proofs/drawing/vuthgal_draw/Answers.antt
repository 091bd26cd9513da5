use Rattle.std.proofs.Common.{rules, ℕ, false, List, Some, subst}
use Rattle.vuthgal_c.specs.Beyond.{DrawsRun}
use Rattle.vuthgal_c.proofs.drawing.vuthgal_draw.Goals as goal

-- what came to the two sinks
pub returns : goal.returns
returns c =
    let drawn = subst (λ (w : List ℕ). DrawsRun c.args.width c.args.program.now c.args.schedule.now c.drawn-answer.result (Some w)
    (Some c.drawn-answer.new.output.written) false) c.new-reply.ensures.shown c.drawn-answer.ensures.drawn in (
      c.settled_as_asked-status.result,
      (
        c.drawn-answer.new.output.written,
        (
          c.settled_as_asked-status.new.errors.written,
          ((c.drawn-answer.result, (drawn, search rules, search rules)), c.hand.ensures),
        ),
      ),
    )
