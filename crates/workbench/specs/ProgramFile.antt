-- A program in a file: an image, or a text.
use Rattle.std.specs.Prelude.{◌≡◌, ◌⊎◌, ℕ, Bool, true, false, List, [], take, Ok, Err}
use Rattle.assembler.specs.{Meaning.StandsFor, Passes.assembled, Symbols.SymbolTable, Symbols.symbols_in}
use Rattle.row_code.specs.{Image.IsImage, Reading.image_of, Reading.is_magic, declared.image.Image.Image}
use Rattle.workbench.specs.{declared.fault.Fault.Fault, Fault.status_of}
use Rattle.workbench.specs.declared.fault.Fault.TheVariants as fault

-- a file is an image if its first four bytes are those of one
abbrev pub is_image_file : List ℕ → Bool
is_image_file bytes = is_magic (take 4 bytes)

-- the image that a file is, which is within the limits of images, or that the text in it stands for
abbrev pub IsProgramFile : List ℕ → Image → Type 0
IsProgramFile file image =
    ((is_image_file file ≡ true) × (image_of file ≡ Ok image) × IsImage image)
    ⊎ ((is_image_file file ≡ false) × StandsFor file image)

-- with its names; an image has none
abbrev pub no_names : SymbolTable
no_names = record { names = []; rows = [] }

abbrev pub IsNamedProgram : List ℕ → Image → SymbolTable → Type 0
IsNamedProgram file image names =
    ((is_image_file file ≡ true) × (((image_of file ≡ Ok image) × IsImage image) × (names ≡ no_names)))
    ⊎ ((is_image_file file ≡ false) × (StandsFor file image × (symbols_in file ≡ Ok names)))

-- why a text has no image: its first fault, unless it is out of memory (status 4)
abbrev pub IsNoTextFor : Fault → List ℕ → Type 0
IsNoTextFor (fault.Asm f) text = status_of (fault.Asm f) ≡ 3 → assembled text ≡ Err f.fault
IsNoTextFor _ text = ⊥

-- why a file is no program: the first fault of the image, or of the text, unless it is out of memory
abbrev pub IsNoProgramFor : Fault → List ℕ → Type 0
IsNoProgramFor (fault.Image f) file = (is_image_file file ≡ true) × (status_of (fault.Image f) ≡ 3 → image_of file ≡ Err f)
IsNoProgramFor (fault.Asm f) file = (is_image_file file ≡ false) × IsNoTextFor (fault.Asm f) file
IsNoProgramFor _ file = ⊥
