use Rattle.std.proofs.Common.{◌≡◌, Some}
use Rattle.commands.proofs.WrittenChoices.{none, whole}
use Rattle.commands.proofs.choices.choices.Goals as goal

pub returns-in-Ok-None-clause-done : goal.returns-in-Ok-None-clause-done
returns-in-Ok-None-clause-done g c =
    whole (g.S.Source.left c.args.trace.now) (g.S.Source.left c.write_choices.new.trace) (g.K.Sink.written c.args.output.now)
    (g.K.Sink.written c.write_choices.new.output) c.in-Ok-None.field-0 c.in-Ok-None.field-0-is c.in-Ok-None.ensures.written

pub returns-in-Ok-clause-done : goal.returns-in-Ok-clause-done
returns-in-Ok-clause-done g c =
    let is : c.in-Ok-Some.field-0 ≡ Some c.in-Ok-Some.line = cc in
    none (g.S.Source.left c.args.trace.now) (g.S.Source.left c.write_choices.new.trace) (g.K.Sink.written c.args.output.now)
    (g.K.Sink.written c.write_choices.new.output) (g.K.Sink.written c.push_counted_line.new.errors) c.in-Ok-Some.field-0 c.in-Ok-Some.line
    is c.in-Ok-Some.ensures.written c.in-Ok.ensures.bytes
