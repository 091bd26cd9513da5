-- Why there is no picture, by the fault that was found in the program or the schedule.
use Rattle.std.proofs.Common.{◌≡◌, ◌⊎◌, ℕ, List, Some, Result, Err, arith}
use Rattle.loader.specs.declared.load_fault.LoadFault.{LoadFault}
use Rattle.workbench.specs.{declared.fault.Fault.Fault, declared.fault.PictureKind.PictureKind, Fault.status_of}
use Rattle.workbench.specs.declared.fault.PictureKind.TheVariants as picture
use Rattle.commands.specs.{PictureFault.fault_of, Picture.HaveNoPicture, Picture.most_of}
use Rattle.row_code.specs.declared.image.Image.{Image}
use Rattle.pictures.specs.{Choices.HasMoreChoices, Page.HasLongTrace, declared.page.PageFault.PageFault}
use Rattle.pictures.specs.declared.page.PageFault.TheVariants as none
use Rattle.schedule_reader.specs.{declared.fault.ScheduleFault.ScheduleFault, Schedule.finished_schedule}
use Rattle.schedule_reader.specs.declared.fault.ScheduleFault.TheVariants as wrong
use Rattle.trace_text.specs.Start.{IsRefused}

pub no_picture : {A : Type 0} (result : Result A PageFault) (fault : PageFault) (told : Fault) (kind : PictureKind) (schedule : List ℕ)
    (image : Image) → result ≡ Err fault → told ≡ fault_of fault kind
    → ((f : LoadFault) → result ≡ Err (none.Load f) → IsRefused f image)
    → ((f : ScheduleFault) → result ≡ Err (none.Schedule f)
    → ((finished_schedule schedule).fault ≡ Some f) × (f ≡ wrong.Memory → ⊥))
    → (result ≡ Err none.Choices → HasMoreChoices (most_of kind) schedule)
    → (result ≡ Err none.Trace → (kind ≡ picture.Page) × HasLongTrace image schedule)
    → ((f : LoadFault) → IsRefused f image → (result ≡ Err (none.Load f)) ⊎ (result ≡ Err none.Memory))
    → status_of told ≡ 3 → HaveNoPicture kind told image schedule
no_picture result fault told kind schedule image is same load faulty many long loads three = grind arith
