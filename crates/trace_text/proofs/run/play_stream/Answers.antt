use Rattle.std.proofs.Common.{◌≡◌, ◌++◌, ◌<◌, ◌≤◌, Option, Result, Ok, take, length, refl, arith, rules, length-take}
use Rattle.std.proofs.KnownBytes.{Consumes-trans}
use Rattle.trace_text.specs.declared.{play.Refused.Refused, run.RunFault.RunFault}
use Rattle.thread_machine.specs.World.{world_of}
use Rattle.trace_text.proofs.Schedules.{end-plays, end-stopped, piece-plays, piece-stops}
use Rattle.trace_text.proofs.Streams.{consumes-none, has_answered, longer_by_piece, on_ok, played-all}
use Rattle.trace_text.proofs.run.play_stream.Goals as goal

pub returns-then-count-eq0-clause-done : goal.returns-then-count-eq0-clause-done
returns-then-count-eq0-clause-done g c =
    let stream = c.loop.invariant.stream in
    let first = world_of c.args.machine.now in
    let bytes = stream.0 in
    let f = c.finish-told.ensures in
    let consumed = consumes-none _ _ _ bytes c.pull.new.buffer c.in-Ok.count c.if-count-eq0.true stream.1.0 c.in-Ok.ensures.bytes.0 in
    let some : 0 < length c.pull.new.buffer = search rules in
    played-all c.play_piece.result first _ bytes _ _ _ _ consumed (c.in-Ok.ensures.bytes.1 c.if-count-eq0.true some)
    (end-plays c.play_piece.result c.finish-told.result bytes first _ _ _ _ _ _ _ _ _ c.loop.invariant.empty stream.1.2
    (f.runs bytes stream.1.2.reads) (f.answer bytes stream.1.2.reads) c.play_piece.ensures.told c.play_piece.ensures.plays)

pub returns-then-count-eq0-clause-sound : goal.returns-then-count-eq0-clause-sound
returns-then-count-eq0-clause-sound g c =
    on_ok c.play_piece.result _ (has_answered c.in-Ok.count _ _ _ refl c.in-Ok.ensures.failed)

pub returns-then-count-eq0-clause-stops : goal.returns-then-count-eq0-clause-stops
returns-then-count-eq0-clause-stops g c =
    let stream = c.loop.invariant.stream in
    let first = world_of c.args.machine.now in
    let bytes = stream.0 in
    let f = c.finish-told.ensures in
    let consumed = consumes-none _ _ _ bytes c.pull.new.buffer c.in-Ok.count c.if-count-eq0.true stream.1.0 c.in-Ok.ensures.bytes.0 in
    let some : 0 < length c.pull.new.buffer = search rules in
    end-stopped c.play_piece.result c.finish-told.result bytes first _ _ _ _ _ _ _ _ _ _ _ _ c.loop.invariant.empty stream.1.2 consumed
    (c.in-Ok.ensures.bytes.1 c.if-count-eq0.true some) (has_answered c.in-Ok.count _ _ _ refl c.in-Ok.ensures.failed) (f.runs bytes stream.1.2.reads) (f.answer bytes stream.1.2.reads) c.play_piece.ensures.stops

pub returns-in-Err-play_piece-clause-stops : goal.returns-in-Err-play_piece-clause-stops
returns-in-Err-play_piece-clause-stops g c =
    let stream = c.loop.invariant.stream in
    let first = world_of c.args.machine.now in
    let bytes = stream.0 in
    let piece = take c.in-Ok.count c.pull.new.buffer in
    let size : length c.pull.new.buffer ≡ 4096 = search rules in
    let few : length piece ≤ 4096 = omega (arith, size, length-take c.in-Ok.count c.pull.new.buffer, c.in-Ok.ensures.bound) in
    let f = c.feed-told.ensures in
    let consumed = Consumes-trans _ _ _ bytes _ stream.1.0 c.in-Ok.ensures.bytes.0 in
    piece-stops c.in-Err-play_piece.fault c.feed-told.result bytes piece first _ _ _ _ _ _ _ _ _ _ _ _ c.feed-told.new.self c.loop.invariant.empty stream.1.2
    consumed few (has_answered c.in-Ok.count _ _ _ refl c.in-Ok.ensures.failed)
    (f.runs bytes stream.1.2.reads) (f.stream bytes stream.1.2.reads) f.err c.in-Err-play_piece.ensures.stops

pub loop-preserved : goal.loop-preserved
loop-preserved g c =
    let stream = c.loop.invariant.stream in
    let first = world_of c.args.machine.now in
    let bytes = stream.0 in
    let piece = take c.in-Ok.count c.pull.new.buffer in
    let f = c.feed-told.ensures in
    let consumed = Consumes-trans _ _ _ bytes _ stream.1.0 c.in-Ok.ensures.bytes.0 in
    let some : 0 < c.in-Ok.count = omega (arith, c.if-count-eq0.false) in
    let size : length c.pull.new.buffer ≡ 4096 = search rules in
    let played : Result (Option Refused) RunFault = Ok c.in-Ok-play_piece.last in
    record {
      empty = c.play_piece-in-loop.ensures.runs;
      few = omega (arith, f.read, c.loop.invariant.few, size, length-take c.in-Ok.count c.pull.new.buffer, c.in-Ok.ensures.bound);
      reads = omega (arith, c.pull.ensures.reads, c.loop.invariant.reads);
      stream = (
        bytes ++ piece,
        (
          consumed,
          longer_by_piece bytes c.pull.new.buffer piece c.in-Ok.count c.loop.counter refl c.in-Ok.ensures.bound some stream.1.1,
          piece-plays played c.feed-told.result bytes (bytes ++ piece) first _ _ _ _ _ _ _ _ _ _ c.loop.invariant.empty stream.1.2
              c.in-Ok-play_piece.ensures.told (f.runs bytes stream.1.2.reads) (f.answer bytes stream.1.2.reads)
              (f.stream bytes stream.1.2.reads) c.in-Ok-play_piece.ensures.plays,
        ),
      );
    }
