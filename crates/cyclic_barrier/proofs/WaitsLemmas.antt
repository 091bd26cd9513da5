use Rattle.std.proofs.Common.{◌≡◌, ℕ, ◌^◌, ◌<◌, ◌≤◌, Bool, true, false, not, cond, ◌||◌, ◌&&◌, ◌==◌, refl, sym, ◌∙◌, ap, arith, inl, inr, List, [], ◌∷◌, length, slice_set, length-set, replicate, count_by, count_ones, Option, Some, None, eq-eqb, ne_eqb, get_or-set_same, get_or-set_other}
use Rattle.std.proofs.lemmas.{Bool.cases_eq, List.length-map, List.length-replicate, List.get_or-replicate, Simd.ones-mask_l}
use Rattle.std.proofs.{Math.ListN.get_or-map, lemmas.List.Sums.sum_by-set, lemmas.Nat.Bits.bit_at-zero}
use Rattle.cyclic_barrier.specs.declared.answer.WaitState.{WaitState}
use Rattle.cyclic_barrier.specs.ThreadSet.{has, IsUnion, IsWith, IsWithout}
use Rattle.cyclic_barrier.specs.Waits.{wait_at, is_at, is_waiting, released, release}
use Rattle.cyclic_barrier.specs.ShownWaits.{wait_by, shown, threads_at, is_twice, AreDisjoint, wait_at-shown, length-shown, shows, waiting_again}
use Rattle.cyclic_barrier.specs.declared.answer.WaitState.TheVariants as state

-- nobody is in the empty set
pub has-none : (t : ℕ) → has 0 t ≡ false
has-none t = rw (bit_at-zero t) refl

-- the empty sets show no wait
pub shown-none : shown 0 0 0 ≡ replicate 64 None
shown-none = shows 0 0 0 (replicate 64 None) (length-replicate {A = Option WaitState} 64 None)
    (λ t within. rw (has-none t) (sym (get_or-replicate {A = Option WaitState} 64 t None None within)))

tripped_by : (w k r : Bool) → wait_by false (k || w) r ≡ released state.Tripped (wait_by w k r)
tripped_by true true r = refl
tripped_by true false r = refl
tripped_by false true r = refl
tripped_by false false true = refl
tripped_by false false false = refl

broken_by : (w k r : Bool) → is_twice w k r ≡ false → wait_by false k (r || w) ≡ released state.Broken (wait_by w k r)
broken_by true true r e = cc
broken_by true false true e = cc
broken_by true false false e = refl
broken_by false true true e = cc
broken_by false true false e = refl
broken_by false false true e = refl
broken_by false false false e = refl

-- the wait of one thread among those that are released
pub wait_at-release :
    (s : WaitState) (waits : List (Option WaitState)) (t : ℕ) → wait_at (release s waits) t ≡ released s (wait_at waits t)
wait_at-release s waits t = get_or-map (released s) waits t None

-- the wait of one thread where that of one has changed
pub wait_at-set :
    (waits : List (Option WaitState)) (i t : ℕ) (wait : Option WaitState) → i < length waits →
    wait_at (slice_set waits i wait) t ≡ cond (i == t) wait (wait_at waits t)
wait_at-set waits i t wait within = grind (arith, cases_eq, eq-eqb, get_or-set_same, ne_eqb, get_or-set_other)

-- all who wait are released by a trip
pub shown-trip : (w k r set : ℕ) → IsUnion k w set → shown 0 set r ≡ release state.Tripped (shown w k r)
shown-trip w k r set joined = shows 0 set r (release state.Tripped (shown w k r)) (length-map (shown w k r) (released state.Tripped) ∙ length-shown w k r)
    (λ t within. rw (has-none t, joined t) (tripped_by _ _ _) ∙ ap (released state.Tripped) (sym (wait_at-shown w k r t within)) ∙ sym (wait_at-release state.Tripped (shown w k r) t))

-- all who wait are released by a breakage
pub shown-break : (w k r set : ℕ) → AreDisjoint w k r → IsUnion r w set → shown 0 k set ≡ release state.Broken (shown w k r)
shown-break w k r set a joined = shows 0 k set (release state.Broken (shown w k r)) (length-map (shown w k r) (released state.Broken) ∙ length-shown w k r)
    (λ t within. rw (has-none t, joined t) (broken_by _ _ _ (a.disjoint t)) ∙ ap (released state.Broken) (sym (wait_at-shown w k r t within)) ∙ sym (wait_at-release state.Broken (shown w k r) t))

begun_by : (w k r here : Bool) → wait_by (w || here) k r ≡ cond here (Some state.Waiting) (wait_by w k r)
begun_by true k r true = refl
begun_by _ k r _ = refl

ended_by : (w k r here : Bool) → wait_by (w && not here) (k && not here) (r && not here) ≡ cond here None (wait_by w k r)
ended_by true k r false = refl
ended_by false true r false = refl
ended_by false false true false = refl
ended_by false false false false = refl
ended_by true true true true = refl
ended_by true true false true = refl
ended_by true false true true = refl
ended_by true false false true = refl
ended_by false true true true = refl
ended_by false true false true = refl
ended_by false false true true = refl
ended_by false false false true = refl

-- the thread waits
pub shown-begin : (w k r thread set : ℕ) → thread < 64 → IsWith thread w set → shown set k r ≡ slice_set (shown w k r) thread (Some state.Waiting)
shown-begin w k r thread set there joined =
    let waits : List (Option WaitState) = shown w k r in
    shows set k r (slice_set waits thread (Some state.Waiting)) (length-set waits thread (Some state.Waiting) ∙ length-shown w k r)
    (λ t within. rw (joined t) (begun_by _ _ _ (thread == t)) ∙ ap (cond (thread == t) (Some state.Waiting)) (sym (wait_at-shown w k r t within)) ∙ sym (wait_at-set waits thread t (Some state.Waiting) (rw length-shown there)))

-- the thread's wait is over
pub shown-end :
    (w k r thread ws ks rs : ℕ) → thread < 64 → IsWithout thread w ws → IsWithout thread k ks → IsWithout thread r rs →
    shown ws ks rs ≡ slice_set (shown w k r) thread None
shown-end w k r thread ws ks rs there we ke re =
    let waits : List (Option WaitState) = shown w k r in
    shows ws ks rs (slice_set waits thread None) (length-set waits thread None ∙ length-shown w k r)
    (λ t within. rw (we t, ke t, re t) (ended_by _ _ _ (thread == t)) ∙ ap (cond (thread == t) None) (sym (wait_at-shown w k r t within)) ∙ sym (wait_at-set waits thread t None (rw length-shown there)))

-- what a wait has come to, by the set that has the thread
pub at-waiting : (w k r t : ℕ) → t < 64 → has w t ≡ true → wait_at (shown w k r) t ≡ Some state.Waiting
at-waiting w k r t within h = wait_at-shown w k r t within ∙ rw h refl

pub at-tripped : (w k r t : ℕ) → t < 64 → has w t ≡ false → has k t ≡ true → wait_at (shown w k r) t ≡ Some state.Tripped
at-tripped w k r t within h e = wait_at-shown w k r t within ∙ rw (h, e) refl

pub at-broken : (w k r t : ℕ) → t < 64 → has w t ≡ false → has k t ≡ false → has r t ≡ true → wait_at (shown w k r) t ≡ Some state.Broken
at-broken w k r t within h e f = wait_at-shown w k r t within ∙ rw (h, e, f) refl

pub at-none : (w k r t : ℕ) → t < 64 → has w t ≡ false → has k t ≡ false → has r t ≡ false → wait_at (shown w k r) t ≡ None
at-none w k r t within h e f = wait_at-shown w k r t within ∙ rw (h, e, f) refl

-- the threads that wait are counted in their set
pub counted : (w k r : ℕ) → AreDisjoint w k r → count_ones w ≡ count_by is_waiting (shown w k r)
unfolding threads_at
counted w k r a = ap count_ones (sym (waiting_again w k r a)) ∙ ones-mask_l (is_at state.Waiting) (shown w k r)

none_by : (w k r : Bool) → wait_by w k r ≡ None → (k ≡ false) × (r ≡ false)
none_by true k r e = cc
none_by false _ r e = grind arith

disjoint_still : (w k r here : Bool) → is_twice w k r ≡ false → (here ≡ true → (k ≡ false) × (r ≡ false)) →
    is_twice (w || here) k r ≡ false
disjoint_still true k r here e f = e
disjoint_still false k r here e f = grind arith

-- no thread is in two sets once one without a wait waits
pub disjoint-begin :
    (w k r thread set : ℕ) (waits : List (Option WaitState)) → AreDisjoint w k r → shown w k r ≡ waits → wait_at waits thread ≡ None →
    thread < 64 → set < 2 ^ 64 → IsWith thread w set → AreDisjoint set k r
disjoint-begin w k r thread set waits a is none there fits joined = record {
  waiting_fits = fits;
  tripped_fits = a.tripped_fits;
  broken_fits = a.broken_fits;
  disjoint = λ t. rw (joined t) (disjoint_still _ _ _ (thread == t) (a.disjoint t)
      (elim (cases_eq thread t) as (λ _. (thread == t) ≡ true → (has k t ≡ false) × (has r t ≡ false)) [
        | inl e ↦ λ h. rw e at (none_by _ _ _ (sym (wait_at-shown w k r thread there) ∙ (rw (← is) at none)))
        | inr n ↦ λ h. cc (ne_eqb _ _ n)
      ]));
}

-- nobody waits once all are released
pub none_waiting-trip : (waits : List (Option WaitState)) → count_by is_waiting (release state.Tripped waits) ≡ 0
none_waiting-trip [] = refl
none_waiting-trip (None ∷ waits) = none_waiting-trip waits
none_waiting-trip (Some state.Waiting ∷ waits) = none_waiting-trip waits
none_waiting-trip (Some state.Tripped ∷ waits) = none_waiting-trip waits
none_waiting-trip (Some state.Broken ∷ waits) = none_waiting-trip waits

pub or_false : (x : Bool) → x ≡ (x || false)
or_false true = refl
or_false false = refl

-- nobody waits where the set of those who wait is empty
pub none_waiting-shown : (k r : ℕ) → count_by is_waiting (shown 0 k r) ≡ 0
none_waiting-shown k r = ap (count_by is_waiting) (shown-trip 0 k r k (λ t. rw (has-none t) (or_false _))) ∙ none_waiting-trip (shown 0 k r)

-- no more wait once the wait of one thread is over
fewer-end : (waits : List (Option WaitState)) (thread : ℕ) → thread < length waits → count_by is_waiting (slice_set waits thread None) ≤ count_by is_waiting waits
fewer-end waits thread there = omega (arith, sum_by-set (λ w. cond (is_waiting w) 1 0) waits thread None None there)

-- and for the waits that three sets show
pub fewer-shown :
    (w k r thread ws ks rs : ℕ) (waits : List (Option WaitState)) → shown w k r ≡ waits → thread < 64 →
    IsWithout thread w ws → IsWithout thread k ks → IsWithout thread r rs → count_by is_waiting (shown ws ks rs) ≤ count_by is_waiting waits
fewer-shown w k r thread ws ks rs waits is there we ke re =
    rw (← is, shown-end w k r thread ws ks rs there we ke re) (fewer-end (shown w k r) thread (rw length-shown there))

pub ruleset shown_waits = (shown-none, shown-trip, shown-break, shown-begin, shown-end, at-waiting, at-tripped, at-broken, at-none, counted, none_waiting-shown, length-shown)
