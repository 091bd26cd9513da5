-- Which bytes are the page of a program and a schedule.
use Rattle.std.specs.Prelude.{ℕ, if◌then◌else◌, List, []}
use Rattle.row_code.specs.declared.image.Image.{Image}
use Rattle.pictures.specs.Page.{IsPageIn as IsPageOf, Parts}
use Rattle.workbench.specs.ProgramFile.{is_image_file}

-- the source that a page shows: the program's text, or nothing for an image
abbrev pub source_of : List ℕ → List ℕ
source_of program = if is_image_file program then [] else program

abbrev pub IsPageIn : Parts → Image → (program schedule page : List ℕ) → Type 0
IsPageIn parts image program schedule page = IsPageOf parts image (source_of program) schedule page
