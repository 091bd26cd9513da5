-- One word more is stored behind those before it.
use Rattle.std.proofs.Common.{◌≡◌, ◌∙◌, ◌+◌, ℕ, Bool, true, cond, List, [], ◌∷◌, ◌++◌, length, refl, ap, arith}
use Rattle.std.proofs.lemmas.List.Sums.{sum_by-cons}
use Rattle.std.specs.List.{count_by}
use Rattle.plans.specs.declared.{part.Part.Part, part.Stored.Stored, word.Word.Word}
use Rattle.plans.specs.Parts.{Holds, left_of, put_of, taken_of, takes_number, takes_seed, word_with, words_of_parts}

-- the numbers that some parts take are as many as those parts
abbrev pub AreFor : (Part → Bool) → List Part → List ℕ → Type 0
AreFor takes parts numbers = length numbers ≡ count_by takes parts

counted : (takes : Part → Bool) (one : Part) (parts : List Part) → count_by takes (one ∷ parts) ≡ cond (takes one) 1 0 + count_by takes parts
counted takes one parts = sum_by-cons (λ x. cond (takes x) 1 0) one parts

-- the rest of them is for the rest of the parts
rest_for : (takes : Part → Bool) (one : Part) (parts : List Part) (numbers : List ℕ) → AreFor takes (one ∷ parts) numbers
    → AreFor takes parts (left_of (takes one) numbers)
rest_for takes one parts numbers is = grind (arith, counted)

-- numbers behind them change none that are taken before
same_taken : (does : Bool) (numbers more : List ℕ) (many : ℕ) → length numbers ≡ cond does 1 0 + many
    → taken_of does (numbers ++ more) ≡ taken_of does numbers
same_taken true [] more many is = absurd (omega (arith, is))
same_taken _ _ more many is = refl

same_left : (does : Bool) (numbers more : List ℕ) (many : ℕ) → length numbers ≡ cond does 1 0 + many
    → left_of does (numbers ++ more) ≡ left_of does numbers ++ more
same_left true [] more many is = absurd (omega (arith, is))
same_left _ _ more many is = refl

none_left : (numbers : List ℕ) → length numbers ≡ 0 → numbers ≡ []
none_left [] is = refl
none_left (number ∷ numbers) is = absurd (omega (arith, is))

put_first : (stored : Stored) (one : Word) → Holds stored one → (numbers seeds : List ℕ)
    → AreFor takes_number [] numbers → AreFor takes_seed [] seeds
    → words_of_parts (stored.part ∷ []) (numbers ++ put_of (takes_number stored.part) stored.number) (seeds ++ put_of (takes_seed stored.part) stored.seed)
    ≡ one ∷ []
put_first stored one holds numbers seeds n s = grind (arith, none_left)

put_last : (stored : Stored) (one : Word) → Holds stored one → (parts : List Part) (numbers seeds : List ℕ)
    → AreFor takes_number parts numbers → AreFor takes_seed parts seeds
    → words_of_parts (parts ++ stored.part ∷ []) (numbers ++ put_of (takes_number stored.part) stored.number) (seeds ++ put_of (takes_seed stored.part) stored.seed)
    ≡ words_of_parts parts numbers seeds ++ one ∷ []
put_last stored one holds [] numbers seeds n s = put_first stored one holds numbers seeds n s
put_last stored one holds (first ∷ parts) numbers seeds n s =
    let ns = put_of (takes_number stored.part) stored.number in
    let ss = put_of (takes_seed stored.part) stored.seed in
    let a = takes_number first in
    let b = takes_seed first in
    let many = n ∙ counted takes_number first parts in
    let seeded = s ∙ counted takes_seed first parts in
    ap (λ k. word_with first k (taken_of b (seeds ++ ss)) ∷ words_of_parts (parts ++ stored.part ∷ []) (left_of a (numbers ++ ns)) (left_of b (seeds ++ ss)))
    (same_taken a numbers ns _ many)
    ∙ ap (λ k. word_with first (taken_of a numbers) k ∷ words_of_parts (parts ++ stored.part ∷ []) (left_of a (numbers ++ ns)) (left_of b (seeds ++ ss)))
    (same_taken b seeds ss _ seeded)
    ∙ ap (λ k. word_with first (taken_of a numbers) (taken_of b seeds) ∷ words_of_parts (parts ++ stored.part ∷ []) k (left_of b (seeds ++ ss)))
    (same_left a numbers ns _ many)
    ∙ ap (λ k. word_with first (taken_of a numbers) (taken_of b seeds) ∷ words_of_parts (parts ++ stored.part ∷ []) (left_of a numbers ++ ns) k)
    (same_left b seeds ss _ seeded)
    ∙ ap (λ ws. word_with first (taken_of a numbers) (taken_of b seeds) ∷ ws)
    (put_last stored one holds parts (left_of a numbers) (left_of b seeds) (rest_for takes_number first parts numbers n) (rest_for takes_seed first parts seeds s))

pub put_word : (stored : Stored) (one : Word) (parts parts_then : List Part) (numbers numbers_then seeds seeds_then : List ℕ) → Holds stored one
    → parts_then ≡ parts ++ stored.part ∷ [] → numbers_then ≡ numbers ++ put_of (takes_number stored.part) stored.number
    → seeds_then ≡ seeds ++ put_of (takes_seed stored.part) stored.seed → AreFor takes_number parts numbers → AreFor takes_seed parts seeds
    → words_of_parts parts_then numbers_then seeds_then ≡ words_of_parts parts numbers seeds ++ one ∷ []
put_word stored one parts parts_then numbers numbers_then seeds seeds_then holds p n s are_numbers are_seeds = grind (arith, put_last)
