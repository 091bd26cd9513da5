-- Rows of which none has a breakpoint.
use Rattle.std.proofs.Common.{◌≡◌, ◌∷◌, ℕ, zero, suc, Bool, false, List, length, refl, ap, arith, replicate, slice_index_or, slice_set}
use Rattle.thread_state.specs.Thread.{ThreadState}
use Rattle.debugger.specs.Go.{is_at_break}

none_at : (n i : ℕ) → slice_index_or (replicate n false) i false ≡ false
none_at zero i = refl
none_at (suc n) zero = refl
none_at (suc n) (suc i) = none_at n i

none_set : (n i : ℕ) → slice_set (replicate n false) i false ≡ replicate n false
none_set zero i = refl
none_set (suc n) zero = refl
none_set (suc n) (suc i) = ap (λ rows. false ∷ rows) (none_set n i)

-- no thread stands at one
pub none_there : (breaks : List Bool) (thread : ThreadState) → breaks ≡ replicate (length breaks) false
    → false ≡ is_at_break breaks thread
none_there breaks thread none = grind (arith, none_at)

-- and where one is cleared there is none still
pub none_cleared : (breaks : List Bool) (row : ℕ) → breaks ≡ replicate (length breaks) false
    → slice_set breaks row false ≡ replicate (length (slice_set breaks row false)) false
none_cleared breaks row none = grind (arith, none_set)
