use Rattle.std.proofs.Common.{rules, inl, inr, subst}
use Rattle.std.proofs.lemmas.Result.{IfErr-weaker}
use Rattle.commands.specs.Picture.{HaveNoPictureSoFar}
use Rattle.workbench.specs.declared.fault.PictureKind.{PictureKind}
use Rattle.commands.proofs.write_picture.make.Goals as goal

-- the schedule that was read whole has none
pub returns-in-Ok-clause-refused : goal.returns-in-Ok-clause-refused
returns-in-Ok-clause-refused g c =
    IfErr-weaker c.write.result _ _ (λ fault none three. inl (c.as_slice.result.now, (search rules, none three))) c.write.ensures.refused

-- what was read shows it
pub returns-in-Err-clause-refused : goal.returns-in-Err-clause-refused
returns-in-Err-clause-refused g c = λ three.
    let read = c.in-Err.ensures.refused (c.first_fault.ensures.status three) in
    inr (
      read.0,
      (
        read.1.0,
        subst (λ (kind : PictureKind). HaveNoPictureSoFar kind c.first_fault.result c.args.program.image read.0) c.kind-kind.ensures
            (c.first_fault.ensures.refused c.kind-kind.result read.0 read.1.1 three),
      ),
    )
