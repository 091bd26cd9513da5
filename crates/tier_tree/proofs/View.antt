-- The number of a phase, from its view; and a word in its root's phase.
use Rattle.std.proofs.Common.{◌≡◌, ◌≢◌, ℕ, ◌<◌, ◌/◌, ◌%◌, ◌==◌, Bool, false, refl, arith, ℤ, pos}
use Rattle.std.proofs.lemmas.Bool.Decides.{nat_tests}
use Rattle.packed_phaser.specs.{Flat.renew, Word.fields_of, Word.record_of}
use Rattle.phase_number.specs.Phase.{phase_view, is_ended_view}
use Rattle.tier_tree.specs.Stored.{present}

pub view_number : (view : ℤ) (ended : Bool) (p q : ℕ) → view ≡ phase_view q ended → phase_view p (is_ended_view view) ≡ view
    → q < 2147483648 → p ≡ q
view_number (pos n) false p q is found few = cc (is, found)
view_number _ _ p q is found few = grind (arith, is, found, few)

-- the phase stands in a word's upper half, below its highest bit
phase_high : (w : ℕ) → (fields_of w).phase ≡ w / 4294967296 % 2147483648
unfolding fields_of
phase_high w = refl

ended_high : (w : ℕ) → (fields_of w).ended ≡ (w / 4294967296 / 2147483648 == 1)
unfolding fields_of
ended_high w = grind arith

pub stands_as_it_is : (top own : ℕ) → own / 4294967296 ≡ top / 4294967296 → record_of own ≡ present (record_of top) (record_of own)
stands_as_it_is top own same = grind (arith, ended_high, phase_high)

-- of words that aren't terminated, in another phase
phase_of_live : (w : ℕ) → w < 18446744073709551616 → (fields_of w).ended ≡ false → (fields_of w).phase ≡ w / 4294967296
unfolding fields_of
phase_of_live w small live = grind (arith, nat_tests)

pub lags : (top own : ℕ) → top < 18446744073709551616 → own < 18446744073709551616 → (record_of top).ended ≡ false → (record_of own).ended ≡ false
    → own / 4294967296 ≢ top / 4294967296 → renew (record_of top).phase (record_of own) ≡ present (record_of top) (record_of own)
lags top own small_top small_own live_top live_own apart = grind (arith, phase_of_live, nat_tests)
