-- What an escaped text holds.
use Rattle.std.proofs.Common.{◌≡◌, ℕ, true, List, [], ◌∷◌, refl, arith}
use Rattle.std.proofs.lemmas.List.Folds.{list_all-append}
use Rattle.std.specs.List.{list_all}
use Rattle.pictures.specs.Page.{escaped, is_in_no_tag}

-- what is escaped holds no byte of a tag
pub escaped-in_no_tag : (text : List ℕ) → list_all is_in_no_tag (escaped text) ≡ true
escaped-in_no_tag [] = refl
escaped-in_no_tag (byte ∷ text) = grind (arith, list_all-append, escaped-in_no_tag text)
