use Rattle.std.proofs.Common.{rules, ◌≡◌, ◌∙◌, ap, inl, inr}
use Rattle.std.proofs.lemmas.Result.{IfOk-weaker}
use Rattle.thread_machine.specs.World.{world_of}
use Rattle.commands.proofs.{Drawings.drawing_in, NoPicture.no_picture}
use Rattle.workbench.specs.declared.fault.PictureKind.TheVariants as kind
use Rattle.pictures.specs.Missing.{missing_in}
use Rattle.commands.proofs.drawing.DrawingPicture.of.Goals as goal

pub returns-clause-refused : goal.returns-clause-refused
returns-clause-refused c =
    no_picture c.choices_in.result c.in-Err-choices_in.fault c.fault_of.result kind.Drawing c.args.schedule.now
    c.args.program.image c.in-Err-choices_in.is c.fault_of.ensures
    (λ f is. absurd (c.choices_in.ensures.others.0 f is)) c.choices_in.ensures.schedule c.choices_in.ensures.many
    (λ is. absurd (c.choices_in.ensures.others.1 is))
    (λ f refused. elim (c.first_machine.ensures.refused f refused) [ inl e ↦ absurd (cc (c.in-Ok.is, e)) | inr e ↦ absurd (cc (c.in-Ok.is, e)) ])

pub returns-in-Ok-choices_in-clause-picture : goal.returns-in-Ok-choices_in-clause-picture
returns-in-Ok-choices_in-clause-picture c =
    let same : c.as_slice.result.now ≡ c.in-Ok-choices_in.choices.items = search rules in
    IfOk-weaker c.drawn.result _ _ (λ shown is.
    drawing_in c.args.self.now.width c.args.schedule.now shown.bytes.items c.args.program.image
    c.args.program.names (world_of c.in-Ok.machine) c.in-Ok-choices_in.choices.items c.as_slice.result.now
    c.in-Ok.ensures.machine c.in-Ok-choices_in.ensures.choices c.in-Ok-choices_in.ensures.few same is) c.drawn.ensures.drawing

pub returns-in-Ok-choices_in-clause-missing : goal.returns-in-Ok-choices_in-clause-missing
returns-in-Ok-choices_in-clause-missing c =
    let world = world_of c.in-Ok.machine in
    let all = c.in-Ok-choices_in.choices.items in
    let same : c.as_slice.result.now ≡ all = search rules in
    IfOk-weaker c.drawn.result _ _ (λ shown is.
    (world, (all, (c.in-Ok.ensures.machine, c.in-Ok-choices_in.ensures.choices, is ∙ ap (missing_in world) same)))) c.drawn.ensures.missing
