use Rattle.std.proofs.Common.{refl}
use Rattle.workbench.specs.declared.fault.PictureKind.TheVariants as picture
use Rattle.commands.proofs.{NoPicture.no_picture, Pages.page_in}
use Rattle.pictures.specs.Page.{parts_of}
use Rattle.commands.proofs.page.PagePicture.of.Goals as goal

pub returns-in-Ok-clause-picture : goal.returns-in-Ok-clause-picture
returns-in-Ok-clause-picture c =
    page_in (parts_of c.args.self.now.frame) c.args.program.bytes.now c.args.schedule.now c.source_of.result.now c.in-Ok.shown.bytes.items c.args.program.image
    c.source_of.ensures c.in-Ok.ensures.page

pub returns-clause-refused : goal.returns-clause-refused
returns-clause-refused c =
    no_picture c.page.result c.in-Err.fault c.fault_of.result picture.Page c.args.schedule.now c.args.program.image
    c.in-Err.is c.fault_of.ensures (λ f is. (c.page.ensures.load f is).0)
    c.page.ensures.schedule c.page.ensures.many (λ is. (refl, c.page.ensures.long is)) c.page.ensures.refused
