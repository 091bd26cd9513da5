-- A blank behind a schedule.
use Rattle.std.proofs.Common.{◌≡◌, ◌∙◌, ◌+◌, ◌<◌, ℕ, Bool, true, false, List, [], ◌∷◌, ◌++◌, length, refl, ap, arith}
use Rattle.std.proofs.lemmas.List.Splits.{slice_split-cons_no, slice_split-cons_yes, length-slice_split}
use Rattle.std.specs.List.{slice_split, onto_first}
use Rattle.schedule_reader.specs.Schedule.{finished_schedule, is_blank, schedule_in, schedule_with_piece}

-- the pieces of a text that gets a blank
abbrev with_piece : List (List ℕ) → List (List ℕ)
with_piece [] = []
with_piece (piece ∷ []) = piece ∷ [] ∷ []
with_piece (piece ∷ next ∷ pieces) = piece ∷ with_piece (next ∷ pieces)

onto-piece : (x : ℕ) (pieces : List (List ℕ)) → 0 < length pieces → onto_first x (with_piece pieces) ≡ with_piece (onto_first x pieces)
onto-piece x pieces some = grind arith

ahead-piece : (pieces : List (List ℕ)) → 0 < length pieces → [] ∷ with_piece pieces ≡ with_piece ([] ∷ pieces)
ahead-piece pieces some = grind arith

split-piece_by : (x : ℕ) (text : List ℕ) (is : Bool) → is_blank x ≡ is
    → slice_split is_blank (text ++ 10 ∷ []) ≡ with_piece (slice_split is_blank text)
    → slice_split is_blank (x ∷ (text ++ 10 ∷ [])) ≡ with_piece (slice_split is_blank (x ∷ text))
split-piece_by x text true is rest = grind (arith, slice_split-cons_yes, ahead-piece, length-slice_split)
split-piece_by x text false is rest = grind (arith, length-slice_split, slice_split-cons_no, onto-piece)

split-piece : (text : List ℕ) → slice_split is_blank (text ++ 10 ∷ []) ≡ with_piece (slice_split is_blank text)
split-piece [] = refl
split-piece (x ∷ text) = split-piece_by x text (is_blank x) refl (split-piece text)

-- an empty piece behind them is nothing
same-pieces : (pieces : List (List ℕ)) (at : ℕ) → schedule_in true at (with_piece pieces) ≡ schedule_in true at pieces
same-pieces (piece ∷ next ∷ []) at = ap (schedule_with_piece at piece) (same-pieces (next ∷ []) (at + length piece + 1))
same-pieces (piece ∷ next ∷ more ∷ pieces) at = grind (arith, same-pieces (next ∷ more ∷ pieces) (at + length piece + 1))
same-pieces pieces at = grind arith

pub same-schedule : (text : List ℕ) → finished_schedule (text ++ 10 ∷ []) ≡ finished_schedule text
same-schedule text = ap (schedule_in true 0) (split-piece text) ∙ same-pieces (slice_split is_blank text) 0
