-- The exit status of each fault, and the line that reports it.
use Rattle.std.specs.Prelude.{◌⊎◌, ℕ, Bool, IsTrue, List, [], ◌++◌, Option, Some, None, codes}
use Rattle.std.specs.{Fmt.decimal, Io.KnownBytes.Appends}
use Rattle.line_reader.specs.FaultNumber.{asm_number}
use Rattle.row_code.specs.FaultNumber.{image_number}
use Rattle.loader.specs.FaultNumber.{load_number}
use Rattle.schedule_reader.specs.FaultNumber.{schedule_number}
use Rattle.row_code.specs.declared.image_fault.ImageFault.TheVariants as image
use Rattle.loader.specs.declared.load_fault.LoadFault.TheVariants as load
use Rattle.loader.specs.declared.load_fault.Place.TheVariants as place
use Rattle.schedule_reader.specs.declared.fault.ScheduleFault.TheVariants as schedule
use Rattle.tier_tree.specs.Declaration.{fault_number}
use Rattle.workbench.specs.declared.fault.{Fault.Fault, PictureKind.PictureKind}
use Rattle.workbench.specs.declared.fault.Fault.TheVariants as fault
use Rattle.workbench.specs.declared.fault.PictureKind.TheVariants as picture

-- the number of a refusal's kind; missing memory has none
abbrev pub number_of : Fault → Option ℕ
number_of (fault.Asm f) = asm_number f.fault.kind
number_of (fault.Image f) = image_number f
number_of (fault.Load f) = load_number f
number_of (fault.Schedule f) = schedule_number f
number_of _ = None

-- the exit status of a refusal
abbrev pub refusal_status : Option ℕ → ℕ
refusal_status (Some number) = 3
refusal_status None = 4

-- the exit status
abbrev pub status_of : Fault → ℕ
status_of (fault.TooLong kind) = 3
status_of fault.LongTrace = 3
status_of fault.Memory = 4
status_of fault.Spawn = 4
status_of fault.Read = 5
status_of fault.Write = 5
status_of f = refusal_status (number_of f)

-- a word, and a number after it; the same as a line
abbrev pub counted : List ℕ → ℕ → List ℕ
counted word n = word ++ decimal n

abbrev pub counted_line : List ℕ → ℕ → List ℕ
counted_line word n = word ++ (decimal n ++ codes "\n")

-- what precedes the number: the word for the kind of refusal, and for a text the line
abbrev pub word_of : Fault → List ℕ
word_of (fault.Asm f) = counted (codes "refused asm ") f.fault.line ++ codes " "
word_of (fault.Image f) = codes "refused image "
word_of (fault.Load f) = codes "refused load "
word_of (fault.Schedule f) = codes "refused schedule "
word_of _ = []

-- the place after the number: where in the image or in the schedule; the row that names something that doesn't exist; the
-- phaser, and why it can't be declared; or the barrier
abbrev pub place_of : Fault → List ℕ
place_of (fault.Image (image.Field at)) = counted (codes " ") at
place_of (fault.Image (image.Row n)) = counted (codes " ") n
place_of (fault.Load (load.Target (place.Row n))) = counted (codes " row ") n
place_of (fault.Load (load.Target (place.Thread n))) = counted (codes " thread ") n
place_of (fault.Load (load.Target (place.Phaser n))) = counted (codes " phaser ") n
place_of (fault.Load (load.Target (place.Barrier n))) = counted (codes " barrier ") n
place_of (fault.Load (load.NoSuchPhaser row)) = counted (codes " ") row
place_of (fault.Load (load.NoSuchBarrier row)) = counted (codes " ") row
place_of (fault.Load (load.NoSuchThread row)) = counted (codes " ") row
place_of (fault.Load (load.NoSuchCell row)) = counted (codes " ") row
place_of (fault.Load (load.Declare phaser why)) = counted (codes " ") phaser ++ counted (codes " ") (fault_number why)
place_of (fault.Load (load.BarrierParties barrier)) = counted (codes " ") barrier
place_of (fault.Schedule (schedule.Byte at)) = counted (codes " ") at
place_of (fault.Schedule (schedule.Number at)) = counted (codes " ") at
place_of (fault.Schedule (schedule.Repeat at)) = counted (codes " ") at
place_of _ = []

-- the line of a refusal; out of memory has its own
abbrev pub refusal_line : List ℕ → Option ℕ → List ℕ → List ℕ
refusal_line word (Some number) place = word ++ (decimal number ++ (place ++ codes "\n"))
refusal_line word None place = codes "memory\n"

-- the line of a schedule with more choices than a picture has room for
abbrev pub too_long : PictureKind → List ℕ
too_long picture.Page = codes "refused show 1000000\n"
too_long picture.Drawing = codes "refused draw 2000\n"

-- the line on standard error
abbrev pub line_of : Fault → List ℕ
line_of (fault.TooLong kind) = too_long kind
line_of fault.LongTrace = codes "refused show 16777216\n"
line_of fault.Memory = codes "memory\n"
line_of fault.Spawn = codes "spawn\n"
line_of fault.Read = codes "read\n"
line_of fault.Write = codes "write\n"
line_of f = refusal_line (word_of f) (number_of f) (place_of f)

-- the line of a fault was written, unless the port failed
abbrev pub HasReported : Fault → Bool → Option (List ℕ) → Option (List ℕ) → Type 0
HasReported f has_failed errors_before errors_after =
    IsTrue has_failed ⊎ Appends errors_before errors_after (line_of f)
