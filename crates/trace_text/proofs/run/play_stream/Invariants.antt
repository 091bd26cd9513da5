use Rattle.std.proofs.Common.{◌≡◌, ◌+◌, ◌*◌, ◌≤◌, [], List, ℕ, length}
use Rattle.std.specs.Io.KnownBytes.{Consumes}
use Rattle.thread_machine.specs.World.{world_of}
use Rattle.trace_text.specs.Playing.{IsUpTo}
use Rattle.trace_text.proofs.run.play_stream.Given as goal

-- the bytes so far were read, once a turn, at least one and at most 4096, and what they choose is played
abbrev pub invariant-loop : goal.invariant-loop
invariant-loop g l = record {
  empty : l.runs.items ≡ [];
  few : l.reader.read ≤ 4096 * l.counter;
  reads : g.S.Source.reads l.schedule ≤ g.S.Source.reads l.fn.schedule + l.counter;
  stream : (bytes : List ℕ) × (Consumes (g.S.Source.left l.fn.schedule) (g.S.Source.left l.schedule) bytes
      × (l.counter ≤ length bytes)
      × IsUpTo (world_of l.fn.machine) (world_of l.machine) bytes l.reader l.refused (g.W.Sink.written l.fn.output) (g.W.Sink.written l.output));
}
