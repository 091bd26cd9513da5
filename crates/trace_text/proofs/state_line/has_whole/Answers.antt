use Rattle.std.proofs.Common.{◌∙◌, sym}
use Rattle.trace_text.proofs.Wholes.{whole_at}
use Rattle.trace_text.proofs.state_line.has_whole.Goals as goal

pub returns-then-begins_whole : goal.returns-then-begins_whole
returns-then-begins_whole c =
    whole_at c.args.words.now c.loop-rest.rest.now (sym c.loop-rest-test.true ∙ c.is_empty.ensures)
    (sym c.if-begins_whole.true ∙ c.begins_whole.ensures) ∙ sym c.loop-rest.invariant
