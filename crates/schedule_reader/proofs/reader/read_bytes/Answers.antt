use Rattle.std.proofs.Common.{◌+◌, subst, refl, arith}
use Rattle.std.proofs.lemmas.Grind.{common_steps}
use Rattle.schedule_reader.specs.Places.{IsPlace}
use Rattle.schedule_reader.proofs.{Streams.takes-plain, Streams.takes-end, Turns.takes-some, Turns.takes-some_fault}
use Rattle.schedule_reader.proofs.reader.read_bytes.Goals as goal

pub loop-done-init : goal.loop-done-init
loop-done-init c = grind (arith, common_steps, takes-plain)

pub loop-done-preserved : goal.loop-done-preserved
loop-done-preserved c = record {
  within = omega (arith, c.bytes_from.ensures.length, c.in-Ok.ensures.within);
  place = subst (λ at. IsPlace at c.in-Ok.place) (omega arith) c.in-Ok.ensures.place;
  takes = takes-some c.args.place c.loop-done.next c.in-Ok.place c.args.at c.loop-done.done c.in-Ok.count c.args.piece.now c.bytes_from.result.now
      c.args.runs.now.items c.loop-done.runs.items c.read_some.new.runs.items c.bytes_from.ensures.rest c.loop-done.invariant.takes c.in-Ok.ensures.takes;
  spelled = λ all. c.in-Ok.ensures.spelled (c.loop-done.invariant.spelled all);
  few = omega (arith, c.loop-done.invariant.few, c.in-Ok.ensures.few);
  room = omega (arith, c.loop-done.invariant.room, c.in-Ok.ensures.capacity);
}

pub returns-in-Err-clause-takes : goal.returns-in-Err-clause-takes
returns-in-Err-clause-takes c =
    takes-some_fault c.args.place c.loop-done.next c.in-Err.fault c.args.at (c.args.at + c.loop-done.done) c.loop-done.done c.args.piece.now c.bytes_from.result.now
    c.args.runs.now.items c.loop-done.runs.items c.read_some.new.runs.items c.bytes_from.ensures.rest c.loop-done.invariant.takes c.in-Err.ensures.takes

pub returns-clause-takes : goal.returns-clause-takes
returns-clause-takes c =
    takes-end c.args.place c.loop-done.next c.args.at (c.args.at + c.loop-done.done) c.loop-done.done c.args.piece.now
    c.args.runs.now.items c.loop-done.runs.items c.loop-done-test.false c.loop-done.invariant.within refl c.loop-done.invariant.takes
