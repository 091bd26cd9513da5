-- Which programs and schedules have no picture.
use Rattle.std.specs.Prelude.{◌≡◌, ◌<◌, ℕ, List, None, Some, length}
use Rattle.loader.specs.declared.load_fault.LoadFault.{LoadFault}
use Rattle.row_code.specs.declared.image.Image.{Image}
use Rattle.pictures.specs.{Choices.HasMoreChoices, Choices.most_choices, Choices.most_page_choices, Page.HasLongTrace}
use Rattle.schedule_reader.specs.Schedule.{choices_of, finished_schedule, open_schedule}
use Rattle.trace_text.specs.Start.{IsRefused}
use Rattle.workbench.specs.declared.fault.{Fault.Fault, PictureKind.PictureKind}
use Rattle.workbench.specs.declared.fault.Fault.TheVariants as fault
use Rattle.workbench.specs.declared.fault.PictureKind.TheVariants as picture

-- an image's program is loaded
abbrev pub IsLoadable : Image → Type 0
IsLoadable image = (fault : LoadFault) → IsRefused fault image → ⊥

-- how many choices such a picture has room for
abbrev pub most_of : PictureKind → ℕ
most_of picture.Page = most_page_choices
most_of picture.Drawing = most_choices

-- why a program and a schedule have no picture of a kind, by the fault that is reported: the program can't be loaded; or it
-- can, and the schedule has this fault, or too many choices, or on a page too long a trace
abbrev pub HaveNoPicture : PictureKind → Fault → Image → (schedule : List ℕ) → Type 0
HaveNoPicture kind (fault.Load f) image schedule = IsRefused f image
HaveNoPicture kind (fault.Schedule f) image schedule = IsLoadable image × ((finished_schedule schedule).fault ≡ Some f)
HaveNoPicture kind (fault.TooLong k) image schedule =
    (k ≡ kind) × (IsLoadable image × HasMoreChoices (most_of kind) schedule)
HaveNoPicture kind fault.LongTrace image schedule = (kind ≡ picture.Page) × (IsLoadable image × HasLongTrace image schedule)
HaveNoPicture kind f image schedule = ⊥

-- the beginning of a schedule shows that it has no picture of a kind, whatever follows: it has this fault, or too many choices
abbrev pub ShowsNone : PictureKind → Fault → (front : List ℕ) → Type 0
ShowsNone kind (fault.Schedule f) front = (open_schedule front).fault ≡ Some f
ShowsNone kind (fault.TooLong k) front =
    (k ≡ kind) × (((open_schedule front).fault ≡ None) × (most_of kind < length (choices_of (open_schedule front).runs)))
ShowsNone kind f front = ⊥

-- why a program has no picture under any schedule that begins so: the program can't be loaded; or it can, and the beginning shows
-- it
abbrev pub HaveNoPictureSoFar : PictureKind → Fault → Image → (front : List ℕ) → Type 0
HaveNoPictureSoFar kind (fault.Load f) image front = IsRefused f image
HaveNoPictureSoFar kind f image front = IsLoadable image × ShowsNone kind f front
