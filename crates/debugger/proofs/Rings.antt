-- The ring after a choice: its first place was written, and there is a fresh one before it.
use Rattle.std.proofs.Common.{◌≡◌, ◌-◌, ◌<◌, ◌∷◌, ℕ, suc, List, Option, arith, drop, ap, length, slice_set, take}
use Rattle.machine_scene.specs.Undo.{Note}

pub written_and_pushed : (fresh kept : Option Note) (items : List (Option Note)) (capacity : ℕ) → 0 < length items → 1 < capacity
    → drop 1 (take capacity (fresh ∷ slice_set items 0 kept)) ≡ take (capacity - 1) (kept ∷ drop 1 items)
written_and_pushed fresh kept (first ∷ rest) (suc (suc capacity)) some more =
    let one_less : suc capacity ≡ suc (suc capacity) - 1 = omega arith in ap (λ most. take most (kept ∷ rest)) one_less
written_and_pushed fresh kept items capacity some more = grind arith
