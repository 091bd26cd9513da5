-- Tests over the threads below a number.
use Rattle.std.proofs.Common.{◌≡◌, ◌∙◌, ◌⊎◌, inl, inr, ◌+◌, ◌<◌, ℕ, zero, suc, Bool, true, false, get_or, arith, refl, sym, ap, subst}
use Rattle.std.proofs.lemmas.List.FromFn.{length-range_with_len, get_or-range_with_len}
use Rattle.std.proofs.lemmas.List.Folds.{list_any_at, list_any_none}
use Rattle.std.specs.List.{list_any, range_with_len}

-- one number more that fails the test
pub one_more : (test : ℕ → Bool) (t : ℕ) → ((k : ℕ) → k < t → test k ≡ false) → test t ≡ false
    → (k : ℕ) → k < t + 1 → test k ≡ false
one_more test t before now k within = grind arith

-- the numbers below this one, in order
nth : (many k d : ℕ) → k < many → get_or (range_with_len 0 many) k d ≡ k
nth many k d within = grind (arith, get_or-range_with_len)

-- one passes
pub one_passes : (test : ℕ → Bool) (many t : ℕ) → t < many → test t ≡ true → list_any test (range_with_len 0 many) ≡ true
one_passes test many t there passes =
    list_any_at test (range_with_len 0 many) t 0 (subst (λ n. t < n) (sym (length-range_with_len 0 many)) there)
    (ap test (nth many t 0 there) ∙ passes)

-- none does
pub none_passes : (test : ℕ → Bool) (many : ℕ) → ((k : ℕ) → k < many → test k ≡ false) → list_any test (range_with_len 0 many) ≡ false
none_passes test many none = grind (arith, list_any_none, length-range_with_len, nth)

-- none below this number passes, or there is a lowest that does
pub record Lowest (test : ℕ → Bool) (many : ℕ) : Type 0 where
  pub at : ℕ
  pub there : at < many
  pub passes : test at ≡ true
  pub lower : (k : ℕ) → k < at → test k ≡ false

lowest_by : (test : ℕ → Bool) (many : ℕ) (last : Bool) → test many ≡ last
    → ((k : ℕ) → k < many → test k ≡ false) ⊎ Lowest test many
    → ((k : ℕ) → k < suc many → test k ≡ false) ⊎ Lowest test (suc many)
lowest_by test many last is (inr found) = grind arith
lowest_by test many true is (inl none) = inr (record { at = many; there = omega arith; passes = is; lower = none })
lowest_by test many false is (inl none) = inl (λ k within. one_more test many none is k (omega (arith, within)))

pub lowest : (test : ℕ → Bool) (many : ℕ) → ((k : ℕ) → k < many → test k ≡ false) ⊎ Lowest test many
lowest test zero = inl (λ k within. absurd (omega (arith, within)))
lowest test (suc many) = lowest_by test many (test many) refl (lowest test many)
