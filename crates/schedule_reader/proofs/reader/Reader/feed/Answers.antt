use Rattle.std.proofs.Common.{inr, Err}
use Rattle.schedule_reader.proofs.Streams.{fed-answer, fed-ok, fed-runs, fed-stream, stays-runs}
use Rattle.schedule_reader.proofs.reader.Reader.feed.Goals as goal

pub returns-in-Some-clause-runs : goal.returns-in-Some-clause-runs
returns-in-Some-clause-runs c bytes has = stays-runs c.args.piece.now (rw (← c.self.view_is) at has) c.in-Some.is

pub returns-in-Ok-clause-runs : goal.returns-in-Ok-clause-runs
returns-in-Ok-clause-runs c bytes has =
    fed-runs c.args.piece.now (rw (← c.self.view_is) at has) c.in_default.is c.in-Ok.ensures.place c.in-Ok.ensures.takes

pub returns-in-Ok-clause-answer : goal.returns-in-Ok-clause-answer
returns-in-Ok-clause-answer c bytes has =
    fed-answer c.args.piece.now (rw (← c.self.view_is) at has) c.in_default.is c.in-Ok.ensures.place c.in-Ok.ensures.takes

pub returns-in-Ok-clause-stream : goal.returns-in-Ok-clause-stream
returns-in-Ok-clause-stream c bytes has =
    inr (fed-ok c.args.piece.now (rw (← c.self.view_is) at has) c.in_default.is c.in-Ok.ensures.place c.in-Ok.ensures.takes)

pub returns-in-Err-clause-runs : goal.returns-in-Err-clause-runs
returns-in-Err-clause-runs c bytes has =
    fed-runs c.args.piece.now (rw (← c.self.view_is) at has) c.in_default.is c.in-Err.ensures.place c.in-Err.ensures.takes

pub returns-in-Err-clause-answer : goal.returns-in-Err-clause-answer
returns-in-Err-clause-answer c bytes has =
    fed-answer c.args.piece.now (rw (← c.self.view_is) at has) c.in_default.is c.in-Err.ensures.place c.in-Err.ensures.takes

pub returns-in-Err-clause-stream : goal.returns-in-Err-clause-stream
returns-in-Err-clause-stream c bytes has =
    fed-stream c.args.piece.now (Err c.in-Err.fault) (rw (← c.self.view_is) at has) c.in_default.is c.in-Err.ensures.place c.in-Err.ensures.takes
