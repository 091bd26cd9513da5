use Rattle.headline.proofs.Showing.{file_debugged_at}
use Rattle.headline.proofs.shown.debug_at.Goals as goal

pub returns-clause-shown : goal.returns-clause-shown
returns-clause-shown g c =
    file_debugged_at c.debug_at.result c.args.image (g.T.Source.left c.args.trace.now) (g.T.Source.left c.debug_at.new.trace) (g.T.Source.has_failed c.debug_at.new.trace)
    (g.C.Companion.left c.args.commands.now) (g.C.Companion.left c.debug_at.new.commands) (g.C.Companion.has_failed c.debug_at.new.commands)
    (g.K.Sink.written c.args.output.now) (g.K.Sink.written c.debug_at.new.output) (g.K.Sink.has_failed c.debug_at.new.output) c.debug_at.ensures.outcome
