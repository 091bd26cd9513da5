use Rattle.std.proofs.Common.{subst}
use Rattle.trace_compare.specs.Writing.{HasWritten}
use Rattle.trace_compare.proofs.WrittenRuns.{end-some, on-ok}
use Rattle.trace_compare.proofs.writing.end.Goals as goal

pub returns-in-Some-clause-ended : goal.returns-in-Some-clause-ended
returns-in-Some-clause-ended g c = λ start choices written.
    on-ok c.push_token.result (λ pushed.
    end-some c.args.is_trace start (g.K.Sink.written c.args.output.now) (g.K.Sink.written c.push_token.new.output) choices c.in-Some.run' pushed
    (subst (λ last. HasWritten start last (g.K.Sink.written c.args.output.now) choices) c.in-Some.is written)) c.push_token.ensures.token
