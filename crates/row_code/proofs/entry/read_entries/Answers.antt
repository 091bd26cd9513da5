use Rattle.std.proofs.Common.{◌≡◌, take, Ok, Err, rules}
use Rattle.std.proofs.lemmas.{Result.err_from_is_err_and, List.Elements.All-push}
use Rattle.row_code.specs.Reading.{is_memory, entries}
use Rattle.row_code.proofs.Loop.{goes_on, ends, is_done, fails, fewer_left}
use Rattle.row_code.proofs.entry.read_entries.Goals as goal

pub returns-in_err-read-clause-read : goal.returns-in_err-read-clause-read
returns-in_err-read-clause-read g c =
    let kind = g.E.Entry in
    let read = kind.reading c.args.timed c.args.start in
    let f = c.in_err-read.field-0.0 in
    let total = entries kind.SIZE read 0 c.args.count c.args.bytes.now in
    let first : read c.loop-n.n (take kind.SIZE c.loop-n.rest.now) ≡ Err f = cc (c.split_at.ensures.front, c.in_err-read.ensures.read) in
    let p = err_from_is_err_and c.from_residual-in_err-read.result c.from_residual-in_err-read.ensures.1 in
    rw (p.1, p.2) (fails is_memory f total (ends kind.SIZE read c.loop-n.list.items c.args.count c.loop-n.n c.loop-n.rest.now f total
    c.loop-n-test.true first c.loop-n.invariant.told))

pub loop-n-preserved : goal.loop-n-preserved
loop-n-preserved g c =
    let kind = g.E.Entry in
    let read = kind.reading c.args.timed c.args.start in
    let e = c.in_ok-read.field-0 in
    let total = entries kind.SIZE read 0 c.args.count c.args.bytes.now in
    let first : read c.loop-n.n (take kind.SIZE c.loop-n.rest.now) ≡ Ok e = cc (c.split_at.ensures.front, c.in_ok-read.ensures.read) in
    record {
      told = rw (c.in_ok-push.ensures.items, c.split_at.ensures.back, c.SIZE.ensures)
          (goes_on kind.SIZE read c.loop-n.list.items c.args.count c.loop-n.n c.loop-n.rest.now e total
          c.loop-n-test.true first c.loop-n.invariant.told);
      count = search rules;
      size = fewer_left kind.SIZE c.args.count c.loop-n.n _ _ c.loop-n-test.true (rw c.SIZE.ensures at c.split_at.ensures.back_len) c.loop-n.invariant.size;
      fits = rw c.in_ok-push.ensures.items (All-push kind.fits c.loop-n.list.items e c.loop-n.invariant.fits c.in_ok-read.ensures.fits);
    }

pub returns-clause-read : goal.returns-clause-read
returns-clause-read g c =
    let kind = g.E.Entry in
    let read = kind.reading c.args.timed c.args.start in
    is_done kind.SIZE read c.loop-n.list.items c.args.count c.loop-n.n c.loop-n.rest.now
    (entries kind.SIZE read 0 c.args.count c.args.bytes.now) c.loop-n-test.false c.loop-n.invariant.told
