-- Sets of threads of which one is looked at.
use Rattle.std.proofs.Common.{sym, arith, w64, ◌≤◌, ◌≢◌, ◌≡◌, ◌∙◌, ℕ, ◌-◌, ◌*◌, ◌%◌, ◌^◌, ◌<◌, ◌==◌, Bool, true, false, refl, ap, bit_and, bit_or, if◌then◌else◌}
use Rattle.std.proofs.lemmas.{Bool.cases_eq, Bool.cases_lt, Nat.Bits.bit_at-trailing_zeros}
use Rattle.cyclic_barrier.specs.ThreadSet.{has}
use Rattle.machine_scene.specs.ReadySet.{IsSetAt}
use Rattle.cyclic_barrier.proofs.{ThreadSetLemmas.has-with, ThreadSetLemmas.has-without, WaitsLemmas.has-none}
use Rattle.tier_tree.proofs.Stands.{same-is, other-is}
use Rattle.std.specs.Int.{trailing_zeros}

pub set_with : (a k : ℕ) → k < 64 → (t : ℕ)
    → has (bit_or a (1 * 2 ^ k % 18446744073709551616)) t ≡ (if k == t then true else has a t)
set_with a k within t = grind (arith, has-with)

pub set_without : (a k : ℕ) → a < 2 ^ 64 → k < 64 → (t : ℕ)
    → has (bit_and a (18446744073709551615 - 1 * 2 ^ k % 18446744073709551616)) t ≡ (if k == t then false else has a t)
set_without a k fits within t = grind (arith, has-without)

pub ruleset set_at = (set_with, set_without)

-- one thread was put to the test anew
abbrev pub IsTestedAt : (ℕ → Bool) → ℕ → ℕ → ℕ → Type 0
IsTestedAt test t before set = (u : ℕ) → has set u ≡ (if t == u then test u else has before u)

-- nobody is in the empty set
pub nobody : (u : ℕ) → has 0 u ≡ true → false ≡ true
nobody u is = sym (has-none u) ∙ is

-- another number is another thread
pub apart_from : (t u : ℕ) → (t == u) ≡ false → u ≢ t
apart_from t u other same = let yes = ap (λ (n : ℕ). t == n) same ∙ same-is t in cc (yes, other)

-- one thread is looked at: the test of it is that of its number
pub tested_at : (test : ℕ → Bool) (t before set : ℕ) → IsSetAt t (test t) before set → IsTestedAt test t before set
tested_at test t before set is u = grind (arith, cases_eq, other-is)

-- where the others were right, all are
pub all_right : (these now was right : Bool) → now ≡ (if these then right else was) → (these ≡ false → was ≡ right) → now ≡ right
all_right true now was right is others = is
all_right false now was right is others = is ∙ others refl

-- the first threads were put to the test, and nobody else is in the set
pub record IsFilledTo (test : ℕ → Bool) (k set : ℕ) : Type 0 where
  pub below : (u : ℕ) → u < k → has set u ≡ test u
  pub above : (u : ℕ) → k ≤ u → has set u ≡ false

pub filled_all : (test : ℕ → Bool) (n set : ℕ) → IsFilledTo test n set → ((u : ℕ) → n ≤ u → test u ≡ false) → (u : ℕ) → has set u ≡ test u
filled_all test n set filled none u = grind (arith, cases_lt)

-- the lowest bit of a set that isn't empty is a member
pub lowest : (set : ℕ) → set ≢ 0 → set < 2 ^ 64 → has set (trailing_zeros w64 set) ≡ true
lowest set some few = ap (λ (n : ℕ). n == 1) (bit_at-trailing_zeros w64 set (omega (arith, some)) few).1
