use Rattle.std.proofs.Common.{◌≡◌, false, take}
use Rattle.std.specs.{List.flat_map, Io.KnownBytes.Appends}
use Rattle.row_code.proofs.entry.write_entries.Given as goal

-- what stands before the entry is written
abbrev pub invariant-loop-entry : goal.invariant-loop-entry
invariant-loop-entry g l =
    let sink = g.W.Sink in
    record {
      alive : sink.has_failed l.sink ≡ false;
      bytes : Appends (sink.written l.initial.sink) (sink.written l.sink) (flat_map g.E.Entry.spelling (take l.entry-index l.list));
    }
