use Rattle.workbench.proofs.Conversations.{HasGoneOn}
use Rattle.workbench.proofs.debug.converse.Given as goal

-- a dialogue was held, in a read for each byte of its lines
abbrev pub invariant-loop-reads : goal.invariant-loop-reads
invariant-loop-reads g l =
    HasGoneOn l.fn.debugger l.debugger (g.C.Companion.left l.fn.commands) (g.C.Companion.left l.commands)
    (g.K.Sink.written l.fn.output) (g.K.Sink.written l.output) l.reads

abbrev pub decreases-loop-reads : goal.decreases-loop-reads
decreases-loop-reads g l = l.reads
