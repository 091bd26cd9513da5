-- The steps of a reading, one after the other.
use Rattle.std.proofs.Common.{◌≡◌, ℕ, Bool, true, false, cond, not, ◌&&◌, ◌||◌, List, bytes_eq, Result, Ok, Err, refl, ap, arith}
use Rattle.std.proofs.lemmas.Slice.Eq.{bytes_eq-Decides}
use Rattle.row_code.specs.Answers.{◌>>=◌}
use Rattle.line_reader.specs.declared.asm_fault.{AsmFaultKind.AsmFaultKind, WordFault.WordFault}
use Rattle.line_reader.specs.Reading.{check, read_at}

-- the value of a step that did not fail
pub bind_ok : {A B E : Type 0} (r : Result A E) (f : A → Result B E) (y : B) →
    (r >>= f) ≡ Ok y → (x : A) × (r ≡ Ok x) × (f x ≡ Ok y)
bind_ok r f y e = grind arith

-- and what follows from the value
pub bound : {A B C E : Type 0} (r : Result A E) (f : A → Result B E) (y : B) → (r >>= f) ≡ Ok y →
    ((x : A) → r ≡ Ok x → f x ≡ Ok y → C) → C
bound r f y e then = grind arith

abbrev pub done : {A E : Type 0} → A → Result A E
done x = Ok x

pub ok_is : {A E : Type 0} (x y : A) → done {A = A} {E = E} x ≡ done {A = A} {E = E} y → x ≡ y
ok_is x y e = cc

-- a word that was read, wherever it stands
pub read_ok : {A : Type 0} (left : ℕ) (read : Result A AsmFaultKind) (x : A) → read_at left read ≡ Ok x → read ≡ Ok x
read_ok left (Ok y) x e = ap (λ z. Ok z) (ok_is y x e)
read_ok left (Err kind) x e = absurd (cc)

-- and what follows from it
pub bound_at : {A B C : Type 0} (left : ℕ) (r : Result A AsmFaultKind) (f : A → Result B WordFault) (y : B) →
    (read_at left r >>= f) ≡ Ok y → ((x : A) → r ≡ Ok x → f x ≡ Ok y → C) → C
bound_at left (Ok x) f y e then = then x refl e
bound_at left (Err kind) f y e then = absurd (cc)

-- a check that is met
pub check_ok : {B E : Type 0} (b : Bool) (wrong : E) (f : Unit {0} → Result B E) (y : B) →
    (check b wrong >>= f) ≡ Ok y → (b ≡ true) × (f tt ≡ Ok y)
check_ok true wrong f y e = (refl, e)
check_ok false wrong f y e = absurd (cc)

-- either way that a test goes
pub by_test : {A : Type 0} (b : Bool) → (b ≡ true → A) → (b ≡ false → A) → A
by_test true is is-not = is refl
by_test false is is-not = is-not refl

-- a test that did not end the reading
pub passed : {A E : Type 0} (b : Bool) (wrong : E) (read : Result A E) (x : A) →
    cond b (Err wrong) read ≡ Ok x → (b ≡ false) × (read ≡ Ok x)
passed true wrong read x e = absurd (cc)
passed false wrong read x e = (refl, e)

pub guard_ok : {A E : Type 0} (b : Bool) (wrong : E) (read : Result A E) (x : A) →
    cond b read (Err wrong) ≡ Ok x → (b ≡ true) × (read ≡ Ok x)
guard_ok true wrong read x e = (refl, e)
guard_ok false wrong read x e = absurd (cc)

pub not_false : (b : Bool) → not b ≡ false → b ≡ true
not_false true e = refl
not_false false e = absurd (cc)

pub not_true : (b : Bool) → not b ≡ true → b ≡ false
not_true true e = absurd (cc)
not_true false e = refl

pub is_bytes : (a b : List ℕ) → bytes_eq a b ≡ true → a ≡ b
is_bytes a b e = (bytes_eq-Decides a b).0 e

pub both_true : (a b : Bool) → (a && b) ≡ true → (a ≡ true) × (b ≡ true)
both_true true b e = (refl, e)
both_true false b e = absurd (cc)

pub or_right : (a b : Bool) → b ≡ true → (a || b) ≡ true
or_right true b e = refl
or_right false b e = e
