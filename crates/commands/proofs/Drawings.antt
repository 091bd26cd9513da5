-- The drawing of a program under a schedule.
use Rattle.std.proofs.Common.{◌≡◌, ◌≤◌, ℕ, List, length, arith}
use Rattle.assembler.specs.Symbols.{SymbolTable}
use Rattle.commands.specs.Drawing.{IsDrawingIn}
use Rattle.row_code.specs.declared.image.Image.{Image}
use Rattle.pictures.specs.{Picture.picture, Choices.AreChoicesOf, Choices.most_choices}
use Rattle.thread_machine.specs.{declared.choice.Choice.Choice, World.World}
use Rattle.trace_text.specs.Start.{Begins}

pub drawing_in : (width : ℕ) (schedule text : List ℕ) (image : Image) (symbols : SymbolTable) (world : World)
    (choices drawn : List Choice) → Begins image world → AreChoicesOf schedule choices
    → length choices ≤ most_choices → drawn ≡ choices → text ≡ picture width symbols world drawn → IsDrawingIn width image symbols schedule text
drawing_in width schedule text image symbols world choices drawn begins are few same is = grind arith
