use Rattle.std.proofs.Common.{rules, ◌≡◌, ◌≢◌, ◌∙◌, inl, inr, false, [], Some, sym, subst, OnOk}
use Rattle.std.proofs.lemmas.Result.{IfErr-weaker}
use Rattle.commands.specs.Unplanned.{unplanned_status}
use Rattle.vuthgal_c.specs.{Beyond.SettlesUnplanned, Mistakes.IsRight, Mistakes.Refuses, Mistakes.kind_of}
use Rattle.vuthgal_c.specs.declared.{mistake.Kind.Kind, place.PlaceLook.PlaceLook}
use Rattle.vuthgal_c.proofs.Mistaken.{came_to_three, has_reason, nothing_came, silent}
use Rattle.vuthgal_c.proofs.mistake.vuthgal_mistake.Goals.{then-status-ne3, else-status-ne3}
use Rattle.vuthgal_c.proofs.mistake.vuthgal_mistake.Goals as goal

-- what came to the two sinks
pub returns-clause-shown : goal.returns-clause-shown
returns-clause-shown c =
    let settles : SettlesUnplanned c.find_mistake-answer.result c.settled_unplanned-status.result false (Some []) (Some c.settled_unplanned-status.new.line.written) =
    search rules in
    let right = subst (λ (k : Kind). OnOk c.find_mistake-answer.result (IsRight k c.args.program.now c.args.input.now)) c.kind_of.ensures
    c.find_mistake-answer.ensures.right in
    let wrong = IfErr-weaker c.find_mistake-answer.result
    (λ reason. unplanned_status reason ≡ 3 → Refuses c.kind_of.result c.args.program.now c.args.input.now reason c.find_mistake-answer.new.place)
    (λ reason. unplanned_status reason ≡ 3 → (place : PlaceLook) × Refuses (kind_of c.args.kind) c.args.program.now c.args.input.now reason place)
    (λ reason refused three. (
      c.find_mistake-answer.new.place,
      subst (λ (k : Kind). Refuses k c.args.program.now c.args.input.now reason c.find_mistake-answer.new.place)
          c.kind_of.ensures (refused three),
    )) c.find_mistake-answer.ensures.mistake in
    let quiet : c.settled_unplanned-status.result ≢ 3 → c.find_mistake-answer.new.output.written ≡ [] =
    λ other. nothing_came c.find_mistake-answer.new.output.written c.new-reply.result.shown.written
    (silent c.find_mistake-answer.result c.settled_unplanned-status.result _ _ _ c.find_mistake-answer.ensures.unwritten c.find_mistake-answer.ensures.silent settles other)
    c.new-reply.ensures.shown in (
      c.settled_unplanned-status.result,
      (
        c.find_mistake-answer.new.output.written,
        (
          c.settled_unplanned-status.new.line.written,
          ((c.find_mistake-answer.result, (right, wrong, c.find_mistake-answer.ensures.limit, quiet, settles)), c.hand-status.ensures),
        ),
      ),
    )

-- the place is told with status 3 alone
pub returns-clause-place : goal.returns-clause-place
returns-clause-place c = elim c.if-status-ne3.branch [
  | then-status-ne3 w ↦ inr (w.if-status-ne3.true, w.place-is ∙ w.none.ensures)
  | else-status-ne3 w ↦
      let three = came_to_three c.settled_unplanned-status.result c.find_mistake-answer.new.output.written c.settled_unplanned-status.new.line.written c.hand-status.result
      c.args.output.now c.hand-status.new.output c.hand-status.new.output_length c.args.line.now c.hand-status.new.line
      c.hand-status.new.line_length c.hand-status.ensures w.if-status-ne3.false in
      let told = has_reason c.find_mistake-answer.result c.settled_unplanned-status.result _ _
      (λ reason. Refuses c.kind_of.result c.args.program.now c.args.input.now reason c.find_mistake-answer.new.place)
      c.find_mistake-answer.ensures.mistake c.settled_unplanned-status.ensures three in
      inl (
        w.if-status-ne3.false,
        (
          told.0,
          subst (λ (k : Kind). Refuses k c.args.program.now c.args.input.now told.0 c.if-status-ne3.place) c.kind_of.ensures
              (subst (λ (p : PlaceLook). Refuses c.kind_of.result c.args.program.now c.args.input.now told.0 p) (sym w.place-is) told.1),
        ),
      )
]
