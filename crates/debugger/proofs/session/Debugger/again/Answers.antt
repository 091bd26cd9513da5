use Rattle.std.proofs.Common.{◌∙◌, ap, subst, sym, take}
use Rattle.schedule_reader.specs.Schedule.{choices_of}
use Rattle.thread_machine.specs.World.{world_of}
use Rattle.debugger.specs.Session.{IsHistory, Session}
use Rattle.debugger.proofs.Again.{again_history, again_kept, again_memory, history_with_breaks, never_breaks}
use Rattle.debugger.proofs.session.Debugger.again.Goals as goal

pub unreachable-requires : goal.unreachable-requires
unreachable-requires c =
    never_breaks (take c.args.count (choices_of c.args.runs.now)) c.in-Ok.again c.go_first.new.self
    (ap (λ (s : Session). s.breaks) c.in-Ok.ensures) c.in-Break.ensures.0

pub returns-in-End-clause-history : goal.returns-in-End-clause-history
returns-in-End-clause-history c =
    let choices = take c.args.count (choices_of c.args.runs.now) in
    let played = again_history c.args.machine choices c.in-Ok.again c.go_first.new.self (ap (λ (s : Session). s.machine) c.in-Ok.ensures)
    (ap (λ (s : Session). s.past) c.in-Ok.ensures) c.in-End.ensures.0 in
    history_with_breaks (world_of c.args.machine) choices _ c.in-Ok-copy.marks
    (subst (IsHistory (world_of c.args.machine) choices) (sym c.again-in-End.view_is) played)

pub returns-in-End-clause-kept : goal.returns-in-End-clause-kept
returns-in-End-clause-kept c =
    ap (λ (s : Session). s.kept) c.again-in-End.view_is
    ∙ again_kept (take c.args.count (choices_of c.args.runs.now)) c.in-Ok.again c.go_first.new.self c.in-End.ensures.0
    ∙ ap (λ (s : Session). s.kept) c.in-Ok.ensures

pub returns-in-Fault-clause-memory : goal.returns-in-Fault-clause-memory
returns-in-Fault-clause-memory c = λ accepted.
    again_memory c.args.machine (take c.args.count (choices_of c.args.runs.now)) c.in-Ok.again c.go_first.new.self c.in-Fault.fault
    (ap (λ (s : Session). s.machine) c.in-Ok.ensures) c.in-Fault.ensures.0 accepted
