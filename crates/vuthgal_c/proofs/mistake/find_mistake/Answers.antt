use Rattle.std.proofs.Common.{◌∙◌, sym, subst}
use Rattle.vuthgal_c.specs.{Mistakes.Refuses, declared.place.PlaceLook.PlaceLook}
use Rattle.vuthgal_c.proofs.mistake.find_mistake.Goals as goal
use Rattle.vuthgal_c.proofs.mistake.find_mistake.Goals.{then-status-eq3, else-status-eq3}

-- the place is told with status 3
pub returns-after-status-eq3-clause-mistake : goal.returns-after-status-eq3-clause-mistake
returns-after-status-eq3-clause-mistake g c = λ refused. elim c.if-status-eq3.branch [
  | then-status-eq3 w ↦
      subst (λ (p : PlaceLook). Refuses c.args.kind c.args.file.now c.args.input.now c.in-Err.mistake.why p) (sym w.place-is)
      (c.in-Err.ensures.mistake refused)
  | else-status-eq3 w ↦ absurd (w.if-status-eq3.false (c.status.ensures ∙ refused))
]
