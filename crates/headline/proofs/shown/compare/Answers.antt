use Rattle.headline.proofs.Showing.{same_found}
use Rattle.headline.proofs.shown.compare.Goals as goal

pub returns-clause-same : goal.returns-clause-same
returns-clause-same g c =
    same_found c.compared.result c.args.image (g.S.Source.left c.args.trace.now) (g.S.Source.left c.compared.new.trace) (g.S.Source.has_failed c.compared.new.trace)
    (g.K.Sink.written c.args.output.now) (g.K.Sink.written c.compared.new.output) (g.K.Sink.has_failed c.compared.new.output) c.compared.ensures.outcome
