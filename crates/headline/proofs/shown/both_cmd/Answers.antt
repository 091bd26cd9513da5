use Rattle.headline.proofs.Statuses.{settles-ports, settles-refused, settles-shown, settles-statuses}
use Rattle.headline.proofs.shown.both_cmd.Goals as goal

pub returns-clause-statuses : goal.returns-clause-statuses
returns-clause-statuses g c =
    settles-statuses c.both_cmd.result (g.S.Source.left c.args.input.now) (g.S.Source.left c.both_cmd.new.input) (g.S.Source.has_failed c.both_cmd.new.input)
    (g.K.Sink.written c.args.output.now) (g.K.Sink.written c.both_cmd.new.output) (g.K.Sink.has_failed c.both_cmd.new.output)
    (g.E.Sink.has_failed c.both_cmd.new.errors) (g.E.Sink.written c.args.errors.now) (g.E.Sink.written c.both_cmd.new.errors) c.both_cmd.ensures

pub returns-clause-shown : goal.returns-clause-shown
returns-clause-shown g c =
    settles-shown c.both_cmd.result (g.S.Source.left c.args.input.now) (g.S.Source.left c.both_cmd.new.input) (g.S.Source.has_failed c.both_cmd.new.input)
    (g.K.Sink.written c.args.output.now) (g.K.Sink.written c.both_cmd.new.output) (g.K.Sink.has_failed c.both_cmd.new.output)
    (g.E.Sink.has_failed c.both_cmd.new.errors) (g.E.Sink.written c.args.errors.now) (g.E.Sink.written c.both_cmd.new.errors) c.both_cmd.ensures

pub returns-clause-refused : goal.returns-clause-refused
returns-clause-refused g c =
    settles-refused c.both_cmd.result (g.S.Source.left c.args.input.now) (g.S.Source.left c.both_cmd.new.input) (g.S.Source.has_failed c.both_cmd.new.input)
    (g.K.Sink.written c.args.output.now) (g.K.Sink.written c.both_cmd.new.output) (g.K.Sink.has_failed c.both_cmd.new.output)
    (g.E.Sink.has_failed c.both_cmd.new.errors) (g.E.Sink.written c.args.errors.now) (g.E.Sink.written c.both_cmd.new.errors) c.both_cmd.ensures

pub returns-clause-ports : goal.returns-clause-ports
returns-clause-ports g c =
    settles-ports c.both_cmd.result (g.S.Source.left c.args.input.now) (g.S.Source.left c.both_cmd.new.input) (g.S.Source.has_failed c.both_cmd.new.input)
    (g.K.Sink.written c.args.output.now) (g.K.Sink.written c.both_cmd.new.output) (g.K.Sink.has_failed c.both_cmd.new.output)
    (g.E.Sink.has_failed c.both_cmd.new.errors) (g.E.Sink.written c.args.errors.now) (g.E.Sink.written c.both_cmd.new.errors) c.both_cmd.ensures
