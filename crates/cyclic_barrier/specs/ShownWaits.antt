-- How three sets of threads show the states of all waits. Only the model of `Waits` uses this.
use Rattle.std.proofs.Common.{◌≡◌, ℕ, ◌^◌, ◌<◌, Bool, true, false, cond, ◌||◌, ◌&&◌, ◌==◌, refl, sym, ◌∙◌, ap, arith, List, map, length, Option, Some, None, zero-add, if◌then◌else◌, ext_get_or}
use Rattle.std.proofs.lemmas.{Bool.Decides.nat_tests, List.length-map, List.get_or-map, Simd.mask_l-lt, Simd.bit_mask_l}
use Rattle.std.proofs.lemmas.List.FromFn.{get_or-map-range_with_len, length-map-range_with_len}
use Rattle.std.proofs.lemmas.Nat.Bits.{bit_at-lt, same_from_bits_below}
use Rattle.std.specs.{Int.bit_at, List.range_with_len, Simd.Lanes.mask_l}
use Rattle.cyclic_barrier.specs.{declared.answer.WaitState.WaitState, ThreadSet.has, Waits.wait_at, Waits.is_at}
use Rattle.cyclic_barrier.specs.declared.answer.WaitState.TheVariants as state

-- a wait, by whether it is in each of three sets
abbrev pub wait_by : Bool → Bool → Bool → Option WaitState
wait_by waiting tripped broken =
    if waiting then Some state.Waiting
    else (if tripped then Some state.Tripped else (if broken then Some state.Broken else None))

-- the waits that three sets of threads show
unfoldable pub shown : ℕ → ℕ → ℕ → List (Option WaitState)
shown waiting tripped broken =
    map (λ t. wait_by (has waiting t) (has tripped t) (has broken t)) (range_with_len 0 64)

-- the set of the threads whose wait has this state
unfoldable pub threads_at : WaitState → List (Option WaitState) → ℕ
threads_at s waits = mask_l (map (is_at s) waits)

-- two of three hold
abbrev pub is_twice : Bool → Bool → Bool → Bool
is_twice x y z = (x && y) || ((x && z) || (y && z))

-- three sets of threads below 64, and no thread is in two of them
pub record AreDisjoint (waiting tripped broken : ℕ) : Type 0 where
  pub waiting_fits : waiting < 2 ^ 64
  pub tripped_fits : tripped < 2 ^ 64
  pub broken_fits : broken < 2 ^ 64
  pub disjoint : (t : ℕ) → is_twice (has waiting t) (has tripped t) (has broken t) ≡ false

-- Lemmas from here on: the sets can be recovered from the waits. They are here and not in proofs/, because a model's inverse
-- can name no other place. No promise depends on them.

-- the wait that three sets show for a thread
pub wait_at-shown :
    (w k r t : ℕ) → t < 64 → wait_at (shown w k r) t ≡ wait_by (has w t) (has k t) (has r t)
unfolding shown
wait_at-shown w k r t within =
    get_or-map-range_with_len (λ u. wait_by (has w u) (has k u) (has r u)) 0 64 t t None within
    (zero-add t)

pub length-shown : (w k r : ℕ) → length (shown w k r) ≡ 64
unfolding shown
length-shown w k r =
    length-map-range_with_len (λ u. wait_by (has w u) (has k u) (has r u)) 0 64

-- three sets show these waits if they do so for each thread
pub shows :
    (w k r : ℕ) (waits : List (Option WaitState)) → length waits ≡ 64 →
    ((t : ℕ) → t < 64 → wait_by (has w t) (has k t) (has r t) ≡ wait_at waits t) →
    shown w k r ≡ waits
shows w k r waits long each =
    ext_get_or None (shown w k r) waits (length-shown w k r ∙ sym long)
    (λ t within.
    let below : t < 64 = rw length-shown at within in
    wait_at-shown w k r t below ∙ each t below)

bit_again : (x : ℕ) → x < 2 → cond (x == 1) 1 0 ≡ x
bit_again x p = grind (arith, nat_tests)

-- a set is had again from the waits that it helped to show
pub set_again :
    (s : WaitState) (w k r set : ℕ) → set < 2 ^ 64 →
    ((t : ℕ) → is_at s (wait_by (has w t) (has k t) (has r t)) ≡ has set t) →
    threads_at s (shown w k r) ≡ set
unfolding threads_at
set_again s w k r set fits each =
    let waits : List (Option WaitState) = shown w k r in
    let tests : List Bool = map (is_at s) waits in
    let long : length tests ≡ 64 = length-map waits (is_at s) ∙ length-shown w k r in
    let small : mask_l tests < 2 ^ 64 = rw long at (mask_l-lt tests) in
    same_from_bits_below 64 (mask_l tests) set small fits
    (λ t within.
    bit_mask_l tests t
    ∙ ap (λ b. cond b 1 0)
    (get_or-map (is_at s) waits t None false (rw length-shown within)
    ∙ ap (is_at s) (wait_at-shown w k r t within) ∙ each t)
    ∙ bit_again (bit_at set t) (bit_at-lt set t))

-- the wait that three tests show has this state, if at most one of them holds
at_waiting : (w k r : Bool) → is_at state.Waiting (wait_by w k r) ≡ w
at_waiting true k r = refl
at_waiting false true r = refl
at_waiting false false true = refl
at_waiting false false false = refl

at_tripped :
    (w k r : Bool) → is_twice w k r ≡ false → is_at state.Tripped (wait_by w k r) ≡ k
at_tripped true true r e = cc
at_tripped true false r e = refl
at_tripped false true r e = refl
at_tripped false false true e = refl
at_tripped false false false e = refl

at_broken :
    (w k r : Bool) → is_twice w k r ≡ false → is_at state.Broken (wait_by w k r) ≡ r
at_broken true true r e = cc
at_broken true false true e = cc
at_broken true false false e = refl
at_broken false true true e = cc
at_broken false true false e = refl
at_broken false false true e = refl
at_broken false false false e = refl

pub waiting_again :
    (w k r : ℕ) → AreDisjoint w k r → threads_at state.Waiting (shown w k r) ≡ w
waiting_again w k r a =
    set_again state.Waiting w k r w a.waiting_fits (λ t. at_waiting _ _ _)

pub tripped_again :
    (w k r : ℕ) → AreDisjoint w k r → threads_at state.Tripped (shown w k r) ≡ k
tripped_again w k r a =
    set_again state.Tripped w k r k a.tripped_fits (λ t. at_tripped _ _ _ (a.disjoint t))

pub broken_again :
    (w k r : ℕ) → AreDisjoint w k r → threads_at state.Broken (shown w k r) ≡ r
broken_again w k r a =
    set_again state.Broken w k r r a.broken_fits (λ t. at_broken _ _ _ (a.disjoint t))
