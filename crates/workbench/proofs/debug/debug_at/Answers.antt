use Rattle.std.proofs.Common.{inr, refl, Ok}
use Rattle.workbench.proofs.Traces.{answered_at, begun_at, not_begun_at, unread_at, untraced_at}
use Rattle.workbench.proofs.debug.debug_at.Goals as goal

pub returns-in-Err-clause-outcome : goal.returns-in-Err-clause-outcome
returns-in-Err-clause-outcome g c =
    inr (not_begun_at c.in-Err.fault c.args.image _ _ _ _ _ _ _ _ c.in-Err.ensures.none refl (refl, refl))

pub returns-in-Err-play_trace-clause-outcome : goal.returns-in-Err-play_trace-clause-outcome
returns-in-Err-play_trace-clause-outcome g c =
    inr (unread_at c.in-Err-play_trace.fault c.args.image c.in-Ok.debugger _ _ _ _ _ _ _ _ c.in-Err-play_trace.ensures.fault c.in-Ok.ensures.first (refl, refl))

pub returns-in-Ok-NotATrace-clause-outcome : goal.returns-in-Ok-NotATrace-clause-outcome
returns-in-Ok-NotATrace-clause-outcome g c =
    untraced_at c.not_a_trace.result c.args.image c.in-Ok.debugger c.in-Ok-NotATrace.line _ _ _ _ _ _ _ _ _
    c.not_a_trace.ensures.told c.not_a_trace.ensures.unlike c.not_a_trace.ensures.fault c.in-Ok.ensures.first
    (c.play_trace.ensures.none c.in-Ok-NotATrace.line cc) refl

pub returns-in-Ok-say_stop-clause-outcome : goal.returns-in-Ok-say_stop-clause-outcome
returns-in-Ok-say_stop-clause-outcome g c =
    let before = c.in-Ok.debugger in
    let (choices, (named, stops)) = c.play_trace.ensures.stopped c.in-Ok-To.stop cc in
    let then = g.K.Sink.written c.say_stop.new.output in
    answered_at c.converse.result c.as_asked.result c.args.image before c.play_trace.new.debugger choices _ _ _ _ _ then _ _ _ _
    c.as_asked.ensures.done c.as_asked.ensures.fault c.in-Ok.ensures.first named
    (begun_at c.in-Ok-To.stop before c.play_trace.new.debugger choices _ then stops c.in-Ok-say_stop.ensures.line)
    c.converse.ensures.outcome

pub returns-clause-outcome : goal.returns-clause-outcome
returns-clause-outcome g c =
    let (choices, (named, stops)) = c.play_trace.ensures.stopped c.in-Ok-To.stop cc in
    inr ((c.in-Ok.debugger, c.in-Ok.ensures.first), (Ok choices, named), c.in-Err-say_stop.ensures.failed, refl)
