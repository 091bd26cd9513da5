use Rattle.std.proofs.Common.{[]}
use Rattle.schedule_reader.proofs.ReadAtOnce.{answered, fault_read, not_refused, runs_read}
use Rattle.schedule_reader.proofs.whole.read_schedule.Goals as goal

pub returns-in-Ok-clause-runs : goal.returns-in-Ok-clause-runs
returns-in-Ok-clause-runs c =
    let fed = not_refused _ c.feed-fed.result c.is_refused.ensures c.if-is_refused.false in
    let start = c.new-reader.ensures.stream in
    let read = answered c.feed-fed.result fed (c.feed-fed.ensures.stream [] start) in
    runs_read c.args.schedule.now c.feed-fed.result c.finish.result _ _ _ c.new-runs.ensures.items (c.feed-fed.ensures.runs [] start) fed
    (c.finish.ensures.runs c.args.schedule.now read) c.in-Ok.is (c.finish.ensures.answer c.args.schedule.now read)

pub returns-in-Err-clause-fault : goal.returns-in-Err-clause-fault
returns-in-Err-clause-fault c =
    let fed = not_refused _ c.feed-fed.result c.is_refused.ensures c.if-is_refused.false in
    let start = c.new-reader.ensures.stream in
    let read = answered c.feed-fed.result fed (c.feed-fed.ensures.stream [] start) in
    fault_read c.args.schedule.now c.finish.result c.in-Err.fault c.in-Err.is (c.finish.ensures.answer c.args.schedule.now read)
