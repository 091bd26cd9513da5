use Rattle.std.proofs.Common.{◌≡◌, [], inr, ap, Err}
use Rattle.schedule_reader.specs.{declared.fault.ScheduleFault.TheVariants.Memory, Places.piece_with}
use Rattle.schedule_reader.proofs.Streams.{takes-plain, takes-memory}
use Rattle.schedule_reader.proofs.reader.end_token.Goals as goal

pub returns-in-Err-push-clause-takes : goal.returns-in-Err-push-clause-takes
returns-in-Err-push-clause-takes c =
    takes-memory c.args.runs.now.items c.push.new.self.items (λ more. piece_with c.args.place c.args.at [] more) (λ more x. more)
    c.in-Err-push.ensures.items

pub returns-in-Err-clause-takes : goal.returns-in-Err-clause-takes
returns-in-Err-clause-takes c =
    takes-plain (Err c.in-Err.fault) c.args.runs.now.items (λ more. piece_with c.args.place c.args.at [] more) (λ more x. more)
    (λ more. inr (c.in-Err.ensures.piece more))

pub returns-in-Err-clause-room : goal.returns-in-Err-clause-room
returns-in-Err-clause-room c room is = let same : c.in-Err.fault ≡ Memory = cc in c.in-Err.ensures.memory (ap Err same)
