use Rattle.std.proofs.Common.{◌≡◌, ◌≤◌, ◌*◌, ◌-◌, length, All}
use Rattle.row_code.specs.Reading.{entries}
use Rattle.row_code.proofs.Loop.{with_front}
use Rattle.row_code.proofs.entry.read_entries.Given as goal

abbrev pub invariant-loop-n : goal.invariant-loop-n
invariant-loop-n g l =
    let kind = g.E.Entry in
    record {
      told : with_front l.list.items (entries kind.SIZE (kind.reading l.timed l.start) l.n (l.count - l.n) l.rest)
          ≡ entries kind.SIZE (kind.reading l.timed l.start) 0 l.count l.bytes;
      count : length l.list.items ≡ l.n;
      size : kind.SIZE * (l.count - l.n) ≤ length l.rest;
      fits : All kind.fits l.list.items;
    }
