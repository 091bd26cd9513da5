use Rattle.headline.proofs.Showing.{file-shown, text-shown}
use Rattle.headline.proofs.shown.run.Goals as goal

pub returns-clause-file : goal.returns-clause-file
returns-clause-file g c =
    file-shown c.run_to_end.result c.args.image (g.S.Source.left c.args.schedule.now) (g.S.Source.left c.run_to_end.new.schedule) (g.S.Source.has_failed c.run_to_end.new.schedule)
    (g.K.Sink.written c.args.output.now) (g.K.Sink.written c.run_to_end.new.output) (g.K.Sink.has_failed c.run_to_end.new.output) c.run_to_end.ensures.outcome

pub returns-clause-text : goal.returns-clause-text
returns-clause-text g c =
    text-shown c.run_to_end.result c.args.image (g.S.Source.left c.args.schedule.now) (g.S.Source.left c.run_to_end.new.schedule) (g.S.Source.has_failed c.run_to_end.new.schedule)
    (g.K.Sink.written c.args.output.now) (g.K.Sink.written c.run_to_end.new.output) (g.K.Sink.has_failed c.run_to_end.new.output) c.run_to_end.ensures.outcome
