-- A picture that was written, by the schedule that was read.
use Rattle.std.proofs.Common.{◌≡◌, ℕ, List, Option, Result, OnOk, arith}
use Rattle.std.specs.Io.KnownBytes.{Appends}
use Rattle.commands.specs.Pictures.{HasMade, HasWritten}
use Rattle.workbench.specs.Input.{GivesAll}

pub picture_written : (IsPicture : List ℕ → Type 0) (picture bytes : List ℕ) (old new : Option (List ℕ)) → bytes ≡ picture
    → IsPicture picture → Appends old new bytes → HasWritten IsPicture old new
picture_written IsPicture picture bytes old new is made appends = grind arith

-- the same picture, by what the bytes of the schedule are
pub schedule_read : {A E : Type 0} (IsPicture : List ℕ → List ℕ → Type 0) (result : Result A E) (schedule choices : List ℕ)
    (schedule_before schedule_after old new : Option (List ℕ)) → schedule ≡ choices → GivesAll schedule_before schedule_after choices
    → OnOk result (HasWritten (IsPicture schedule) old new)
    → OnOk result (HasMade IsPicture schedule_before schedule_after old new)
schedule_read IsPicture result schedule choices sb sa old new also gives written = grind arith
