use Rattle.std.proofs.Common.{◌≡◌, ◌≢◌, ◌∙◌, ◌+◌, ◌++◌, [], ◌∷◌, true, false, length, Ok, Err, inl, inr, ap, refl, sym, subst, rules}
use Rattle.std.proofs.lemmas.List.{nil_from_length}
use Rattle.std.specs.Io.KnownBytes.{Consumes}
use Rattle.workbench.specs.Debug.{HasNoEnd}
use Rattle.workbench.proofs.Conversations.{cut_off, ends_with_a_line, ends_without_a_line, is_no_quit, nothing_written, output_failed, quits, unanswered}
use Rattle.workbench.proofs.debug.take_turn.Goals.{else-not-is_ended-via-then-not-is_ended+else-is_empty, else-not-is_ended-via-else-not-is_ended}
use Rattle.workbench.proofs.debug.take_turn.Goals as goal

pub returns-in-Err-clause-fault : goal.returns-in-Err-clause-fault
returns-in-Err-clause-fault g c =
    cut_off c.in-Err.fault c.args.debugger.now _ _ _ _ c.next_line.new.line.items c.args.reads.now _ _ c.in-Err.ensures.fault
    c.in-Err.ensures.line refl (λ is. c.in-Err.ensures.memory (ap Err is)) (λ is. c.in-Err.ensures.read (ap Err is))

pub returns-then-is_empty-clause-last : goal.returns-then-is_empty-clause-last
returns-then-is_empty-clause-last g c = λ _.
    let none : length c.next_line.new.line.items ≡ 0 = search rules in
    let e = c.in-Ok.ensures.last (ap Ok c.if-not-is_ended.true) in
    ends_without_a_line c.args.debugger.now _ _ _ _ c.next_line.new.line.items (nil_from_length c.next_line.new.line.items none) e.0 e.1 refl

pub returns-then-is_ended-clause-last : goal.returns-then-is_ended-clause-last
returns-then-is_ended-clause-last g c = λ is.
    let off : c.in-Ok-command.goes_on ≡ false = cc in
    let line = c.as_slice.ensures.value in
    quits c.args.debugger.now c.command.new.self _ _ _ _ c.as_slice.result.now c.in-Ok-command.ensures.outcome.0
    (subst (λ l. Consumes (g.C.Companion.left c.args.commands.now) (g.C.Companion.left c.next_line.new.self) (l ++ 10 ∷ [])) (sym line) (c.in-Ok.ensures.ended (ap Ok c.if-is_ended.true)).0)
    (subst HasNoEnd (sym line) c.in-Ok.ensures.line)
    (sym c.in-Ok-command.ensures.goes_on ∙ off)
    c.in-Ok-command.ensures.outcome.1.0 c.in-Ok-command.ensures.outcome.1.1

pub returns-else-is_ended-clause-last : goal.returns-else-is_ended-clause-last
returns-else-is_ended-clause-last g c = λ _.
    let some : c.next_line.new.line.items ≢ [] = elim c.else-not-is_ended.branch [
      | else-not-is_ended-via-then-not-is_ended+else-is_empty w ↦ search rules
      | else-not-is_ended-via-else-not-is_ended w ↦ absurd (cc w.if-not-is_ended.false)
    ] in
    let line = c.as_slice.ensures.value in
    let e = c.in-Ok.ensures.last (ap Ok c.if-is_ended.false) in
    ends_with_a_line c.args.debugger.now c.command.new.self _ _ _ _ c.as_slice.result.now c.in-Ok-command.ensures.outcome.0
    (subst (λ l. l ≢ []) (sym line) some)
    (subst (Consumes (g.C.Companion.left c.args.commands.now) (g.C.Companion.left c.next_line.new.self)) (sym line) e.0) e.1
    (subst HasNoEnd (sym line) c.in-Ok.ensures.line)
    c.in-Ok-command.ensures.outcome.1.0 c.in-Ok-command.ensures.outcome.1.1

pub returns-then-is_ended-clause-next : goal.returns-then-is_ended-clause-next
returns-then-is_ended-clause-next g c = λ is.
    let on : c.in-Ok-command.goes_on ≡ true = cc in
    let line = c.as_slice.ensures.value in
    let ended = c.in-Ok.ensures.ended (ap Ok c.if-is_ended.true) in
    let answered = c.in-Ok-command.ensures.outcome in (
      record { line = c.as_slice.result.now; reply = answered.0 },
      (
        (
          subst HasNoEnd (sym line) c.in-Ok.ensures.line,
          is_no_quit _ (sym c.in-Ok-command.ensures.goes_on ∙ on),
          (c.command.new.self, (answered.1.0, refl)),
        ),
        subst (λ l. Consumes (g.C.Companion.left c.args.commands.now) (g.C.Companion.left c.next_line.new.self) (l ++ 10 ∷ [])) (sym line) ended.0,
        answered.1.1,
        subst (λ l. length l + 1 + c.next_line.new.reads ≡ c.args.reads.now) (sym line) ended.1,
      ),
    )

pub returns-in-Err-Memory-clause-fault : goal.returns-in-Err-Memory-clause-fault
returns-in-Err-Memory-clause-fault g c =
    unanswered _ c.args.debugger.now _ _ _ _ c.next_line.new.line.items c.in-Ok.is_ended c.args.reads.now
    (g.C.Companion.has_failed c.next_line.new.self) (g.K.Sink.has_failed c.command.new.output)
    (inl (refl, nothing_written _ c.in-Err-Memory.field-0 _ _ _ _ _ _ c.in-Err-Memory.field-0-is c.in-Err-Memory.ensures.outcome))
    (λ e. (c.in-Ok.ensures.ended (ap Ok e)).0) (λ e. c.in-Ok.ensures.last (ap Ok e)) c.in-Ok.ensures.line

pub returns-in-Err-Write-clause-fault : goal.returns-in-Err-Write-clause-fault
returns-in-Err-Write-clause-fault g c =
    unanswered _ c.args.debugger.now _ _ (g.K.Sink.written c.args.output.now) (g.K.Sink.written c.command.new.output)
    c.next_line.new.line.items c.in-Ok.is_ended c.args.reads.now
    (g.C.Companion.has_failed c.next_line.new.self) (g.K.Sink.has_failed c.command.new.output)
    (inr (refl, output_failed _ c.in-Err-Write.field-0 _ _ _ _ _ _ c.in-Err-Write.field-0-is c.in-Err-Write.ensures.outcome))
    (λ e. (c.in-Ok.ensures.ended (ap Ok e)).0) (λ e. c.in-Ok.ensures.last (ap Ok e)) c.in-Ok.ensures.line
