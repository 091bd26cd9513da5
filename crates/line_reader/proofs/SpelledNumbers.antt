-- Names, numbers and references: what is read is spelled so, and what is spelled so is read.
use Rattle.std.proofs.Common.{◌≡◌, ℕ, ℤ, pos, ◌≤ℤ◌, true, false, ◌||◌, eqb, int_lt, List, [], ◌∷◌, Ok, refl, ap, subst, arith, eqb-true, ltb-false, le-ltb}
use Rattle.std.proofs.lemmas.Int.{ints}
use Rattle.line_reader.specs.{declared.reference.Reference.Reference, Names.is_name, Symbols.Name}
use Rattle.line_reader.specs.Spelling.{SpellsNumber, SpellsReference}
use Rattle.line_reader.specs.Reading.{name_at, number_at, count_at, reference_at}
use Rattle.line_reader.proofs.Steps.{bind_ok, ok_is, by_test, passed, guard_ok, not_false}

pub name_takes : (word name : List ℕ) → name_at word ≡ Ok name → (word ≡ name) × (is_name name ≡ true)
unfolding name_at
name_takes word name e = grind (arith, guard_ok, ok_is)

pub name_again : (word : List ℕ) → is_name word ≡ true → name_at word ≡ Ok word
unfolding name_at
name_again word is = rw is refl

int_range : (low high z : ℤ) → (int_lt z low || int_lt high z) ≡ false → (low ≤ℤ z) × (z ≤ℤ high)
int_range low high z e = grind (arith, ints)

pub number_takes : (low high : ℤ) (word : List ℕ) (number : ℤ) → number_at low high word ≡ Ok number →
    SpellsNumber low high word number
unfolding number_at
number_takes low high word number e = grind (arith, passed, ok_is, int_range, not_false, ltb-false)

pub number_again : (low high : ℤ) (word : List ℕ) (number : ℤ) → SpellsNumber low high word number →
    number_at low high word ≡ Ok number
unfolding number_at
number_again low high word number s = grind (arith, le-ltb)

pub count_takes : (high : ℕ) (word : List ℕ) (n : ℕ) → count_at high word ≡ Ok n →
    SpellsNumber (pos 0) (pos high) word (pos n)
unfolding count_at
count_takes high word n e = grind (arith, bind_ok, number_takes, ok_is)

pub count_again : (high : ℕ) (word : List ℕ) (n : ℕ) → SpellsNumber (pos 0) (pos high) word (pos n) →
    count_at high word ≡ Ok n
unfolding count_at
count_again high word n s = rw (number_again (pos 0) (pos high) word (pos n) s) refl

-- what a word is read as, it spells
pub reference_takes : (high : ℕ) (word : List ℕ) (r : Reference Name) → reference_at high word ≡ Ok r →
    SpellsReference high word r
unfolding reference_at
reference_takes high [] r e = absurd (cc)
reference_takes high (byte ∷ bytes) r e =
    by_test (eqb byte 35)
    (λ is.
    let a = bind_ok (count_at high bytes) _ r (rw is at e) in
    let first : byte ≡ 35 = eqb-true _ _ is in
    subst (λ (q : Reference Name). SpellsReference high (byte ∷ bytes) q) (ok_is _ _ a.2)
    (bytes, ap (λ (b : ℕ). b ∷ bytes) first, count_takes high bytes a.0 a.1))
    (λ is-not.
    let a = bind_ok (name_at (byte ∷ bytes)) _ r (rw is-not at e) in
    subst (λ (q : Reference Name). SpellsReference high (byte ∷ bytes) q) (ok_is _ _ a.2)
    (name_takes (byte ∷ bytes) a.0 a.1))

pub reference_again : (high : ℕ) (word : List ℕ) (r : Reference Name) → SpellsReference high word r →
    reference_at high word ≡ Ok r
unfolding reference_at
reference_again high word r s = grind (arith, by_test, eqb-true, name_again, count_again)
