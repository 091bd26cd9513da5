-- Which text is the drawing of a program and a schedule.
use Rattle.std.specs.Prelude.{◌≤◌, ℕ, List, length}
use Rattle.assembler.specs.Symbols.{SymbolTable}
use Rattle.row_code.specs.declared.image.Image.{Image}
use Rattle.pictures.specs.{Picture.IsPictureOf, Choices.AreChoicesOf, Choices.most_choices}
use Rattle.thread_machine.specs.declared.choice.Choice.{Choice}

-- the drawing, at most so wide, of no more choices than a picture shows
abbrev pub IsDrawingIn : (width : ℕ) → Image → SymbolTable → (schedule text : List ℕ) → Type 0
IsDrawingIn width image symbols schedule text =
    (choices : List Choice) × (AreChoicesOf schedule choices × (length choices ≤ most_choices)
    × IsPictureOf image width symbols choices text)
