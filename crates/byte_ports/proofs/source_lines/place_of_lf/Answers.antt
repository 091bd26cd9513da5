use Rattle.std.proofs.Common.{◌+◌, ◌<◌, length, arith, refl}
use Rattle.byte_ports.proofs.Pieces.{one-more, three-more}
use Rattle.byte_ports.proofs.source_lines.place_of_lf.Goals as goal

pub returns-then-bytes-at-eq10-2-clause-one : goal.returns-then-bytes-at-eq10-2-clause-one
returns-then-bytes-at-eq10-2-clause-one c =
    one-more c.args.bytes.now c.loop-at.at (c.loop-at.at + 1) refl c.loop-at.invariant.one
    (omega (arith, c.loop-at-test.true, c.loop-at.invariant.within)) c.if-bytes-at-eq10.false

pub returns-then-bytes-at-eq10-3-clause-one : goal.returns-then-bytes-at-eq10-3-clause-one
returns-then-bytes-at-eq10-3-clause-one c =
    let room : c.loop-at.at + 3 < length c.args.bytes.now = omega (arith, c.loop-at-test.true, c.loop-at.invariant.within) in
    one-more c.args.bytes.now (c.loop-at.at + 1) (c.loop-at.at + 2) (omega arith)
    (one-more c.args.bytes.now c.loop-at.at (c.loop-at.at + 1) refl c.loop-at.invariant.one (omega (arith, room)) c.if-bytes-at-eq10.false)
    (omega (arith, room)) c.if-bytes-at-eq10-2.false

pub returns-then-bytes-at-eq10-4-clause-one : goal.returns-then-bytes-at-eq10-4-clause-one
returns-then-bytes-at-eq10-4-clause-one c =
    three-more c.args.bytes.now c.loop-at.at c.loop-at.invariant.one (omega (arith, c.loop-at-test.true, c.loop-at.invariant.within))
    c.if-bytes-at-eq10.false c.if-bytes-at-eq10-2.false c.if-bytes-at-eq10-3.false

pub loop-at-preserved : goal.loop-at-preserved
loop-at-preserved c =
    let room : c.loop-at.at + 3 < length c.args.bytes.now = omega (arith, c.loop-at-test.true, c.loop-at.invariant.within) in
    record {
      order = omega (arith, c.loop-at.invariant.order);
      within = omega (arith, room);
      one = one-more c.args.bytes.now (c.loop-at.at + 3) (c.loop-at.at + 4) (omega arith)
          (three-more c.args.bytes.now c.loop-at.at c.loop-at.invariant.one (omega (arith, room))
          c.if-bytes-at-eq10.false c.if-bytes-at-eq10-2.false c.if-bytes-at-eq10-3.false)
          room c.if-bytes-at-eq10-4.false;
    }

pub loop-at-2-preserved : goal.loop-at-2-preserved
loop-at-2-preserved c =
    record {
      order = omega (arith, c.loop-at-2.invariant.order);
      within = omega (arith, c.loop-at-2-test.true);
      one = one-more c.args.bytes.now c.loop-at-2.at (c.loop-at-2.at + 1) refl c.loop-at-2.invariant.one c.loop-at-2-test.true c.if-bytes-at-ne10.true;
    }
