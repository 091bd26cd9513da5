use Rattle.std.proofs.Common.{◌≡◌, drop, length, arith, rules, subst, true}
use Rattle.schedule_reader.specs.{Places.schedule_from, Schedule.finished_schedule}
use Rattle.schedule_reader.proofs.Fews.{HasSeen, seen_last, seen_last_fault}
use Rattle.schedule_reader.proofs.few.few_runs.Goals as goal

pub returns-in-Ok-clause-few : goal.returns-in-Ok-clause-few
returns-in-Ok-clause-few c =
    let bytes = c.args.schedule.now in
    let all : c.loop-at.at ≡ length bytes = search (rules, arith) in
    let seen = subst (λ n. HasSeen c.loop-at.few (finished_schedule bytes) (schedule_from true c.loop-at.place n (drop n bytes))) all
    c.loop-at.invariant.seen in
    (seen_last c.loop-at.few c.with.result bytes c.loop-at.place (length bytes) (length bytes) c.in-Ok.ended seen (omega arith)
    c.in-Ok.ensures.piece c.with.ensures).0

pub returns-in-Ok-clause-faultless : goal.returns-in-Ok-clause-faultless
returns-in-Ok-clause-faultless c =
    let bytes = c.args.schedule.now in
    let all : c.loop-at.at ≡ length bytes = search (rules, arith) in
    let seen = subst (λ n. HasSeen c.loop-at.few (finished_schedule bytes) (schedule_from true c.loop-at.place n (drop n bytes))) all
    c.loop-at.invariant.seen in
    (seen_last c.loop-at.few c.with.result bytes c.loop-at.place (length bytes) (length bytes) c.in-Ok.ended seen (omega arith)
    c.in-Ok.ensures.piece c.with.ensures).1

pub returns-in-Err-clause-fault : goal.returns-in-Err-clause-fault
returns-in-Err-clause-fault c =
    let bytes = c.args.schedule.now in
    let all : c.loop-at.at ≡ length bytes = search (rules, arith) in
    let seen = subst (λ n. HasSeen c.loop-at.few (finished_schedule bytes) (schedule_from true c.loop-at.place n (drop n bytes))) all
    c.loop-at.invariant.seen in
    seen_last_fault c.loop-at.few bytes c.loop-at.place (length bytes) (length bytes) c.in-Err.fault seen (omega arith) c.in-Err.ensures.piece
