use Rattle.std.proofs.Common.{subst}
use Rattle.trace_compare.specs.Writing.{HasWritten}
use Rattle.trace_compare.proofs.WrittenRuns.{take-more, take-other}
use Rattle.trace_compare.proofs.writing.take.Goals as goal

pub returns-in-Some-with-clause-taken : goal.returns-in-Some-with-clause-taken
returns-in-Some-with-clause-taken g c = λ start choices written.
    take-more start (g.K.Sink.written c.args.output.now) choices c.args.choice c.in-Some.run' c.in-Some-with.more c.requires.thread
    c.in-Some-with.ensures.0 c.in-Some-with.ensures.1 c.in-Some-with.ensures.2
    (subst (λ last. HasWritten start last (g.K.Sink.written c.args.output.now) choices) c.in-Some.is written)

pub returns-clause-taken : goal.returns-clause-taken
returns-clause-taken g c = λ start choices written.
    take-other start (g.K.Sink.written c.args.output.now) (g.K.Sink.written c.push_token.new.output) choices c.args.choice c.in-Some.run'
    c.once-2.result c.requires.thread c.in_default-with.ensures c.once-2.ensures c.in_ok-push_token.ensures.token
    (subst (λ last. HasWritten start last (g.K.Sink.written c.args.output.now) choices) c.in-Some.is written)
