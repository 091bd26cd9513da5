-- What is made of one number after another.
use Rattle.std.proofs.Common.{◌≡◌, ◌∙◌, ◌≤◌, ap, sym, ℕ, ◌+◌, ◌-◌, ◌*◌, ◌<◌, List, [], ◌∷◌, ◌++◌, arith, append_assoc, append-nil}
use Rattle.std.proofs.lemmas.Grind.{flat_map-append}
use Rattle.trace_text.proofs.Traces.{one_text_more}
use Rattle.pictures.specs.{Picture.each_from, Picture.lines_text, Picture.with_cells, Picture.written_line, Sheet.put_at}

-- one cell more
pub with_cells-next : (cell : ℕ → List ℕ) (width n count : ℕ) (line : List ℕ) → n < count
    → with_cells cell width n (count - n) line
    ≡ with_cells cell width (n + 1) (count - (n + 1)) (put_at (8 + n * width) (cell n) line)
with_cells-next cell width n count line there = grind arith

-- one number more
pub each_from-next : {A : Type 0} (made : ℕ → List A) (n count : ℕ) → n < count
    → each_from made n (count - n) ≡ made n ++ each_from made (n + 1) (count - (n + 1))
each_from-next made n count there = grind arith

-- the same of the lines that are written
pub each_text-next : (width : ℕ) (made : ℕ → List (List ℕ)) (n count : ℕ) → n < count
    → lines_text width (each_from made n (count - n))
    ≡ lines_text width (made n) ++ lines_text width (each_from made (n + 1) (count - (n + 1)))
each_text-next width made n count there = grind (arith, each_from-next, flat_map-append)

-- the lines of one number more are written
pub each_written : (width : ℕ) (made : ℕ → List (List ℕ)) (n count : ℕ) (now next start all : List ℕ) → n < count
    → next ≡ now ++ lines_text width (made n)
    → now ++ lines_text width (each_from made n (count - n)) ≡ start ++ all
    → next ++ lines_text width (each_from made (n + 1) (count - (n + 1))) ≡ start ++ all
each_written width made n count now next start all there is before =
    one_text_more now next start (lines_text width (made n)) (lines_text width (each_from made n (count - n)))
    (lines_text width (each_from made (n + 1) (count - (n + 1)))) all is (each_text-next width made n count there) before

-- the lines of all numbers are written where none is left
pub all_written : (width : ℕ) (made : ℕ → List (List ℕ)) (n count : ℕ) (now start all : List ℕ) → count ≤ n
    → now ++ lines_text width (each_from made n (count - n)) ≡ start ++ all → now ≡ start ++ all
all_written width made n count now start all done before =
    let none : count - n ≡ 0 = omega (arith, done) in
    sym (append-nil now) ∙ ap (λ left. now ++ lines_text width (each_from made n left)) (sym none) ∙ before

-- a block, and an empty line behind it
pub spaced : (width : ℕ) (block : List (List ℕ)) (start drawn all : List ℕ) → drawn ≡ start ++ lines_text width block
    → all ≡ drawn ++ written_line width [] → all ≡ start ++ lines_text width (block ++ ([] ∷ []))
spaced width block start drawn all is so = grind (arith, flat_map-append, append_assoc)

pub ruleset cell_steps = (with_cells-next)
