use Rattle.schedule_reader.proofs.Streams.{ended-answer, ended-runs, ended-stays-answer, ended-stays-runs}
use Rattle.schedule_reader.proofs.reader.Reader.finish.Goals as goal

pub returns-in-Some-clause-runs : goal.returns-in-Some-clause-runs
returns-in-Some-clause-runs c bytes has = ended-stays-runs (rw (← c.self.view_is) at has) c.in-Some.is

pub returns-in-Some-clause-answer : goal.returns-in-Some-clause-answer
returns-in-Some-clause-answer c bytes has = ended-stays-answer (rw (← c.self.view_is) at has) c.in-Some.is

pub returns-in-None-clause-runs : goal.returns-in-None-clause-runs
returns-in-None-clause-runs c bytes has = ended-runs (rw (← c.self.view_is) at has) c.in-None.is c.end_token.ensures.takes

pub returns-in-None-clause-answer : goal.returns-in-None-clause-answer
returns-in-None-clause-answer c bytes has = ended-answer (rw (← c.self.view_is) at has) c.in-None.is c.end_token.ensures.takes
