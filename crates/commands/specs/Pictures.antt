-- What the commands read and write for any kind of picture: `IsPicture schedule bytes` says which bytes are a picture.
use Rattle.std.specs.Prelude.{◌⊎◌, ℕ, if◌then◌else◌, false, List, [], Option}
use Rattle.std.specs.Io.KnownBytes.{Appends}
use Rattle.pictures.specs.Missing.{IsMissingIn}
use Rattle.row_code.specs.declared.image.Image.{Image}
use Rattle.thread_machine.specs.declared.choice.Choice.{Choice}
use Rattle.commands.specs.Picture.{HaveNoPicture, HaveNoPictureSoFar}
use Rattle.workbench.specs.{declared.fault.Fault.Fault, declared.fault.PictureKind.PictureKind, ProgramFile.is_image_file}
use Rattle.workbench.specs.{Input.GivesAll, Input.GivesFront, RunLine.program_part, RunLine.schedule_part}

-- a file that has a program and its schedule: an image has none, and a text has it after its line `.run`
abbrev pub program_of : List ℕ → List ℕ
program_of file = if is_image_file file then file else program_part file

abbrev pub schedule_behind : List ℕ → List ℕ
schedule_behind file = if is_image_file file then [] else schedule_part file

-- one such picture was written
abbrev pub HasWritten : (IsPicture : List ℕ → Type 0) → (output_before output_after : Option (List ℕ)) → Type 0
HasWritten IsPicture output_before output_after =
    (picture : List ℕ) × (IsPicture picture × Appends output_before output_after picture)

-- the schedule was read to its end, and the picture was written
abbrev pub HasMade : (IsPicture : List ℕ → List ℕ → Type 0)
    → (schedule_before schedule_after output_before output_after : Option (List ℕ)) → Type 0
HasMade IsPicture schedule_before schedule_after output_before output_after =
    (schedule : List ℕ) × (GivesAll schedule_before schedule_after schedule
    × HasWritten (IsPicture schedule) output_before output_after)

-- it was read to its end, and this choice of a thread that isn't there ended the run of the program under it
abbrev pub HasMissing : Image → (schedule_before schedule_after : Option (List ℕ)) → Option (ℕ × Choice) → Type 0
HasMissing image schedule_before schedule_after missing =
    (schedule : List ℕ) × (GivesAll schedule_before schedule_after schedule × IsMissingIn image schedule missing)

-- it was read to its end, or in part, and there is no picture for this reason
abbrev pub HaveNone : PictureKind → Fault → Image → (schedule_before schedule_after : Option (List ℕ)) → Type 0
HaveNone kind fault image schedule_before schedule_after =
    ((schedule : List ℕ) × (GivesAll schedule_before schedule_after schedule × HaveNoPicture kind fault image schedule))
    ⊎ ((front : List ℕ) × (GivesFront schedule_before schedule_after front false × HaveNoPictureSoFar kind fault image front))
