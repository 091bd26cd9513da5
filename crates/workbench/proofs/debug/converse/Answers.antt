use Rattle.std.proofs.Common.{◌≡◌, ◌≤◌, true, false, Ok, Err, ap, rules}
use Rattle.workbench.proofs.Conversations.{converses_after, few_after, few_so_far, gone_on, not_yet, reads_used}
use Rattle.workbench.proofs.debug.converse.Goals as goal

pub returns-in-Ok-false-clause-outcome : goal.returns-in-Ok-false-clause-outcome
returns-in-Ok-false-clause-outcome g c =
    let is : c.in-Ok-false.field-0 ≡ false = cc in
    converses_after (Ok tt) _ _ _ _ _ _ _ _ c.loop-reads.reads false false c.loop-reads.invariant (c.in-Ok-false.ensures.last (ap Ok is))

pub returns-in-Err-clause-outcome : goal.returns-in-Err-clause-outcome
returns-in-Err-clause-outcome g c =
    converses_after (Err c.in-Err.fault) _ _ _ _ _ _ _ _ c.loop-reads.reads _ _ c.loop-reads.invariant c.in-Err.ensures.fault

pub loop-reads-preserved : goal.loop-reads-preserved
loop-reads-preserved g c =
    let is : c.in-Ok-true.field-0 ≡ true = cc in
    let (exchange, (held, given, written, read)) = c.in-Ok-true.ensures.next (ap Ok is) in
    gone_on _ _ _ _ _ _ _ _ _ exchange c.loop-reads.reads c.take_turn.new.reads c.loop-reads.invariant held given written read

pub returns-clause-outcome : goal.returns-clause-outcome
returns-clause-outcome g c =
    let none : c.loop-reads.reads ≤ 0 = search rules in
    reads_used _ _ _ _ _ _ c.loop-reads.reads (g.C.Companion.has_failed c.loop-reads.commands) false none c.loop-reads.invariant

pub returns-in-Ok-false-clause-few : goal.returns-in-Ok-false-clause-few
returns-in-Ok-false-clause-few g c = few_after _ _ _ _ _ _ _ _ _ c.loop-reads.invariant c.take_turn.ensures.few

pub returns-in-Err-clause-few : goal.returns-in-Err-clause-few
returns-in-Err-clause-few g c = few_after _ _ _ _ _ _ _ _ _ c.loop-reads.invariant c.take_turn.ensures.few

pub returns-clause-few : goal.returns-clause-few
returns-clause-few g c = few_so_far _ _ _ _ _ _ _ c.loop-reads.invariant

pub loop-reads-init : goal.loop-reads-init
loop-reads-init g c = not_yet c.args.debugger.now (g.C.Companion.left c.args.commands.now) (g.K.Sink.written c.args.output.now)
