-- Numbers as they are printed, read as words, names and numbers.
use Rattle.std.proofs.Common.{◌≡◌, ℕ, suc, ◌<◌, ◌≤◌, ℤ, pos, negsuc, ◌≤ℤ◌, Bool, true, List, [], ◌∷◌, length, refl, arith, decimal}
use Rattle.std.proofs.lemmas.{Bool.and_from, Bool.Decides.nat_tests, Fmt.decimal_is_IsNumeral, Fmt.length-decimal-le, Int.ints}
use Rattle.std.proofs.lemmas.Str.Parse.{digit_from_value}
use Rattle.std.specs.{Fmt.signed_decimal, List.list_all, Str.Parse.AllDigits, Str.Parse.digits_value}
use Rattle.line_reader.specs.Names.{begins_name, goes_on_name, is_name}
use Rattle.line_reader.specs.Spelling.{SpellsNumber, least_int, greatest_int}
use Rattle.assembler.proofs.JoinedWords.{is_plain, IsWord}

-- the digits of a number, at most ten
pub record AreDigits (n : ℕ) (ds : List ℕ) : Type 0 where
  pub some : 0 < length ds
  pub short : length ds ≤ 10
  pub digits : AllDigits 10 ds
  pub value : digits_value 10 ds ≡ n

pub decimal_digits : (n : ℕ) → n < 10000000000 → AreDigits n (decimal n)
decimal_digits n small =
    let k = decimal_is_IsNumeral n (omega arith) in
    grind (arith, length-decimal-le)

-- a test that each digit passes
all_digits : (p : ℕ → Bool) → ((c : ℕ) → 48 ≤ c → c ≤ 57 → p c ≡ true) → (ds : List ℕ) → AllDigits 10 ds →
    list_all p ds ≡ true
all_digits p each [] d = refl
all_digits p each (c ∷ cs) d = grind (arith, digit_from_value, and_from, all_digits p each cs d.1)

-- ---- words and names

pub digits_word : (n : ℕ) (ds : List ℕ) → AreDigits n ds → IsWord ds
digits_word n ds h = grind (arith, all_digits, nat_tests)

-- with a plain byte before them
pub marked_word : (mark n : ℕ) (ds : List ℕ) → is_plain mark ≡ true → AreDigits n ds → IsWord (mark ∷ ds)
marked_word mark n ds plain h = grind (arith, and_from, is_plain, all_digits)

pub marked_name : (letter n : ℕ) (ds : List ℕ) → begins_name letter ≡ true → goes_on_name letter ≡ true →
    AreDigits n ds → is_name (letter ∷ ds) ≡ true
marked_name letter n ds begins goes_on h = grind (arith, and_from, all_digits, nat_tests)

-- ---- numbers

pub digits_spell : (low high : ℤ) (n : ℕ) (ds : List ℕ) → AreDigits n ds → low ≤ℤ pos n → pos n ≤ℤ high →
    SpellsNumber low high ds (pos n)
digits_spell low high n ds h least greatest = grind (arith, and_from, all_digits, nat_tests)

minus_spell : (low high : ℤ) (n : ℕ) (ds : List ℕ) → AreDigits (suc n) ds → low ≤ℤ negsuc n → negsuc n ≤ℤ high →
    SpellsNumber low high (45 ∷ ds) (negsuc n)
minus_spell low high n ds h least greatest = grind (arith, and_from, all_digits, nat_tests)

-- a count of parties, a phase or the number of a row or an object
pub decimal_spells : (high n : ℕ) → n ≤ high → n < 10000000000 → SpellsNumber (pos 0) (pos high) (decimal n) (pos n)
decimal_spells high n most small = digits_spell (pos 0) (pos high) n (decimal n) (decimal_digits n small) (omega (arith, ints)) (omega (arith, ints))

-- an `int`
pub int_spells : (z : ℤ) → least_int ≤ℤ z → z ≤ℤ greatest_int →
    SpellsNumber least_int greatest_int (signed_decimal z) z
int_spells (pos n) least greatest = digits_spell least_int greatest_int n (decimal n) (decimal_digits n (omega (arith, ints))) least greatest
int_spells (negsuc n) least greatest = minus_spell least_int greatest_int n (decimal (suc n)) (decimal_digits (suc n) (omega (arith, ints))) least greatest

pub int_word : (z : ℤ) → least_int ≤ℤ z → z ≤ℤ greatest_int → IsWord (signed_decimal z)
int_word (pos n) least greatest = digits_word n (decimal n) (decimal_digits n (omega (arith, ints)))
int_word (negsuc n) least greatest = marked_word 45 (suc n) (decimal (suc n)) refl (decimal_digits (suc n) (omega (arith, ints)))
