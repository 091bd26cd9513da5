use Rattle.std.specs.Io.KnownBytes.{Keeps}
use Rattle.byte_ports.proofs.write_port.flush_through_interruptions.Given as goal

-- the interrupted flushes left what the writer holds
abbrev pub invariant-loop : goal.invariant-loop
invariant-loop g l = Keeps (g.W.Write.contents l.initial.writer) (g.W.Write.contents l.writer)
