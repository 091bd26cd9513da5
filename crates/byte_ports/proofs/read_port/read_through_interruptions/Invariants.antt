use Rattle.std.specs.Io.KnownBytes.{Keeps}
use Rattle.byte_ports.proofs.read_port.read_through_interruptions.Given as goal

-- the interrupted reads took nothing
abbrev pub invariant-loop : goal.invariant-loop
invariant-loop g l = Keeps (g.R.Read.remaining l.initial.reader) (g.R.Read.remaining l.reader)
