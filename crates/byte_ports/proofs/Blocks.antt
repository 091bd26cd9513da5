-- A part of what a block holds.
use Rattle.std.proofs.Common.{◌≡◌, ◌∙◌, ◌+◌, ◌<◌, ◌≤◌, ℕ, List, [], ◌∷◌, ◌++◌, arith, slice_index_or, slice_set, length, take, drop, ap, sym, length-take-le, take-append-drop, drop-drop}
use lib.Seq.{take-append_seam}

take-seam : (count : ℕ) (xs ys : List ℕ) → length xs ≡ count → take count (xs ++ ys) ≡ xs
take-seam count xs ys is = ap (λ n. take n (xs ++ ys)) (sym is) ∙ take-append_seam xs ys

-- the first byte was given, and the others are left
pub first-given : (next : ℕ) (held whole buffer : List ℕ) → held ≡ drop next whole → 0 < length held → 0 < length buffer
    → held ≡ take 1 (slice_set buffer 0 (slice_index_or held 0 0)) ++ drop (next + 1) whole
first-given next held whole [] is some room = absurd (omega (arith, room))
first-given next [] whole (b ∷ buffer) is some room = absurd (omega (arith, some))
first-given next (x ∷ held) whole (b ∷ buffer) is some room =
    ap (λ xs. x ∷ xs) (ap (drop 1) is ∙ drop-drop 1 next whole)

-- what was given and what is left are what was held
pub parts-given : (count next : ℕ) (held whole copied buffer : List ℕ) → held ≡ drop next whole → count ≤ length held → copied ≡ take count held
    → held ≡ take count (copied ++ buffer) ++ drop (next + count) whole
parts-given count next held whole copied buffer is few copy =
    let long : length copied ≡ count = ap length copy ∙ length-take-le count held few in
    sym (take-append-drop count held)
    ∙ ap (λ xs. xs ++ drop count held) (sym (take-seam count copied buffer long ∙ copy))
    ∙ ap (λ ys. take count (copied ++ buffer) ++ drop count ys) is
    ∙ ap (λ ys. take count (copied ++ buffer) ++ ys) (drop-drop count next whole)
