-- The page of a program, by its source.
use Rattle.std.proofs.Common.{◌≡◌, ℕ, List, subst}
use Rattle.commands.specs.Page.{IsPageIn, source_of}
use Rattle.row_code.specs.declared.image.Image.{Image}
use Rattle.pictures.specs.Page.{IsPageIn as IsPageOf, Parts}

pub page_in : (parts : Parts) (program schedule source page : List ℕ) (image : Image) → source ≡ source_of program
    → IsPageOf parts image source schedule page → IsPageIn parts image program schedule page
page_in parts program schedule source page image is shown = subst (λ text. IsPageOf parts image text schedule page) is shown
