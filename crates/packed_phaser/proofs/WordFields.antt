-- The fields of a word by themselves.
use Rattle.std.proofs.Common.{◌≡◌, ℕ, ◌+◌, ◌-◌, ◌*◌, ◌<◌, ◌≤◌, Bool, true, false, arith, max, if◌then◌else◌}
use Rattle.std.proofs.lemmas.Bool.Decides.{nat_tests}
use Rattle.packed_phaser.specs.{declared.word.Fields.Fields, Flat.Flat, Flat.IsFlat}
use Rattle.packed_phaser.specs.Word.{IsWord, fields_of, record_of_fields}

-- the number of a test
abbrev pub bit_of : Bool → ℕ
bit_of false = 0
bit_of true = 1

-- the word that has these fields
abbrev pub word_of : Fields → ℕ
word_of f = f.unarrived + f.parties * 65536 + f.phase * 4294967296 + bit_of f.ended * 9223372036854775808

-- each field fits its place
pub record Fit (f : Fields) : Type 0 where
  pub unarrived : f.unarrived < 65536
  pub parties : f.parties < 65536
  pub phase : f.phase < 2147483648

pub bit_of-bound : (b : Bool) → bit_of b ≤ 1
bit_of-bound false = omega arith
bit_of-bound true = omega arith

pub word_of-bound : (f : Fields) → Fit f → word_of f < 18446744073709551616
word_of-bound f fit = let b = bit_of-bound f.ended in omega arith

-- a word is made of its fields
pub word_of-fields_of : (word : ℕ) → word < 18446744073709551616 → word_of (fields_of word) ≡ word
unfolding fields_of
word_of-fields_of word h = grind arith

-- fields that agree one by one are the same
pub fields_by_parts : (f g : Fields) → f.unarrived ≡ g.unarrived → f.parties ≡ g.parties → f.phase ≡ g.phase → f.ended ≡ g.ended → f ≡ g
fields_by_parts f g unarrived parties phase ended = grind arith

-- and has the fields that it was made of
pub fields_of-word_of : (f : Fields) → Fit f → fields_of (word_of f) ≡ f
unfolding fields_of
fields_of-word_of f fit = grind arith

-- the fields with a party fewer to arrive, which is registered no more where it leaves
abbrev pub fewer : Bool → Fields → Fields
fewer leave f = record f { unarrived = f.unarrived - 1; parties = if leave then f.parties - 1 else f.parties }

abbrev pub party_of : Bool → ℕ
party_of leave = if leave then 65537 else 1

pub party_there : (word : ℕ) (leave : Bool) → 0 < (fields_of word).unarrived → 0 < (fields_of word).parties → party_of leave ≤ word
unfolding fields_of
party_there word true some registered = omega (arith, some, registered)
party_there word false some registered = omega (arith, some)

pub fields_of-fewer : (word : ℕ) (leave : Bool) → 0 < (fields_of word).unarrived → 0 < (fields_of word).parties
    → fields_of (word - party_of leave) ≡ fewer leave (fields_of word)
unfolding fields_of
fields_of-fewer word true some registered = grind (arith, fields_by_parts)
fields_of-fewer word false some registered = grind (arith, fields_by_parts)

fewer_few : (leave : Bool) (f : Fields) → 0 < f.parties → f.unarrived ≤ max f.parties 1 → (fewer leave f).unarrived ≤ max (fewer leave f).parties 1
fewer_few true f registered few = omega (arith, registered, few)
fewer_few false f registered few = omega (arith, registered, few)

pub IsWord-fewer : (word : ℕ) (leave : Bool) → IsWord word → 0 < (fields_of word).unarrived → 0 < (fields_of word).parties
    → IsWord (word - party_of leave)
IsWord-fewer word leave is some registered = grind (arith, fields_of-fewer, fewer_few)

-- the fields of any number fit
pub Fit-fields_of : (word : ℕ) → Fit (fields_of word)
unfolding fields_of
Fit-fields_of word = record { unarrived = omega arith; parties = omega arith; phase = omega arith }

-- what fields in their places tell is a phaser
pub IsFlat-record_of_fields : (u p n : ℕ) (e : Bool) → u ≤ max p 1 → p < 65536 → n < 2147483648
    → IsFlat (record_of_fields (record { unarrived = u; parties = p; phase = n; ended = e }))
IsFlat-record_of_fields u p n false few parties phase = grind (arith, nat_tests)
IsFlat-record_of_fields u p n true few parties phase = grind arith

-- fields that tell one phaser which isn't terminated are the same
pub fields_from_record : (f g : Fields) → f.unarrived ≤ max f.parties 1 → g.unarrived ≤ max g.parties 1
    → record_of_fields f ≡ record_of_fields g → f.ended ≡ false → f ≡ g
fields_from_record f g few few' same live = grind arith

-- the fields of a phaser; where it is terminated, nobody is still to arrive
abbrev pub fields_for : Flat → Fields
fields_for f = record {
  unarrived = if f.ended then 0 else (if f.turned then 0 else max (f.parties - f.arrived) 1);
  parties = f.parties;
  phase = f.phase;
  ended = f.ended;
}

-- they are in range
pub fields_for-unarrived : (parties arrived : ℕ) (ended turned : Bool)
    → (if ended then 0 else (if turned then 0 else max (parties - arrived) 1)) ≤ max parties 1
fields_for-unarrived parties arrived true turned = omega arith
fields_for-unarrived parties arrived false true = omega arith
fields_for-unarrived parties arrived false false = omega arith

-- so the phaser is the one that its fields tell
pub record_of_fields-for : (f : Flat) → IsFlat f → record_of_fields (fields_for f) ≡ f
record_of_fields-for f is_flat = grind arith

-- the fields for a phaser fit
pub Fit-fields_for : (f : Flat) → IsFlat f → Fit (fields_for f)
Fit-fields_for f is_flat = grind arith
