-- What `list` writes, for each result.
use Rattle.std.specs.Prelude.{◌≡◌, ℕ, Bool, IsTrue, List, Option, Result, Ok, Err}
use Rattle.std.specs.Io.KnownBytes.{Appends}
use Rattle.line_reader.specs.Listing.{canonical}
use Rattle.row_code.specs.declared.image.Image.{Image}
use Rattle.workbench.specs.declared.fault.Fault.{Fault}
use Rattle.workbench.specs.declared.fault.Fault.TheVariants as fault

-- why no text was written: the output failed; or there was no memory, and nothing was
abbrev pub StopsListing : Fault → (output_before output_after : Option (List ℕ)) (output_failed : Bool) → Type 0
StopsListing fault.Write output_before output_after output_failed = IsTrue output_failed
StopsListing fault.Memory output_before output_after output_failed = output_after ≡ output_before
StopsListing f output_before output_after output_failed = ⊥

-- the canonical text of the program was written
abbrev pub Lists : Image → Result (Unit {0}) Fault → (output_before output_after : Option (List ℕ)) (output_failed : Bool) → Type 0
Lists image (Ok done) output_before output_after output_failed = Appends output_before output_after (canonical image)
Lists image (Err f) output_before output_after output_failed = StopsListing f output_before output_after output_failed
