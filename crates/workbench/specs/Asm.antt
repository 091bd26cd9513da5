-- What `asm` writes, for each result.
use Rattle.std.specs.Prelude.{◌≡◌, ℕ, Bool, IsTrue, List, Option, Result, Ok, Err}
use Rattle.std.specs.Io.KnownBytes.{Appends}
use Rattle.assembler.specs.Meaning.{StandsFor}
use Rattle.row_code.specs.{Image.image_bytes, declared.image.Image.Image}
use Rattle.workbench.specs.{declared.fault.Fault.Fault, ProgramFile.IsNoTextFor}
use Rattle.workbench.specs.declared.fault.Fault.TheVariants as fault

-- why no image was written: the output failed; or the text stands for none, and nothing was written
abbrev pub StopsAssembling : Fault → (text : List ℕ) (output_before output_after : Option (List ℕ)) (output_failed : Bool) → Type 0
StopsAssembling fault.Write text output_before output_after output_failed = IsTrue output_failed
StopsAssembling f text output_before output_after output_failed = IsNoTextFor f text × (output_after ≡ output_before)

-- the bytes of the image that the text stands for were written
abbrev pub Assembles : (text : List ℕ) → Result (Unit {0}) Fault → (output_before output_after : Option (List ℕ)) (output_failed : Bool) → Type 0
Assembles text (Ok done) output_before output_after output_failed =
    (image : Image) × (StandsFor text image × Appends output_before output_after (image_bytes image))
Assembles text (Err f) output_before output_after output_failed = StopsAssembling f text output_before output_after output_failed
