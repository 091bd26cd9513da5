-- Lines that are put together from their ends, and numbers that are counted up.
use Rattle.std.proofs.Common.{◌≡◌, ◌∙◌, ◌+◌, ◌-◌, ◌<◌, ◌≤◌, ◌/◌, ◌%◌, ◌^◌, ℕ, List, [], ◌∷◌, ◌++◌, length, append-nil, get_or, set, drop, refl, ap, sym, arith, length-append, append_assoc, ℤ, pos, int_le, false, unsigned_abs, inl, inr, take, length-drop, drop_at, get_or-drop, drop-drop, length-take-le, codes, if◌then◌else◌}
use Rattle.std.proofs.lemmas.{Bool.cases_lt, List.set_at, List.get_or_at, List.drop-set-add, List.drop-set, List.drop-append-le}
use Rattle.std.proofs.lemmas.Fmt.{decimal_digit, decimal_step, length-decimal-le}
use borrow.Rule.Slice.PartMut.{put_mid}
use Rattle.std.specs.Fmt.{decimal, signed_decimal}
use Rattle.itoa.proofs.Decimal.{minus_first}
use Rattle.thread_machine.specs.declared.choice.Choice.{Choice}
use Rattle.trace_text.specs.Lines.{choice_text}

-- where a line isn't long, there is room before it for a number of at most 20 digits
pub room_for_count : (bytes line : List ℕ) (start n : ℕ) → length bytes ≡ 192 → start ≤ 192 → drop start bytes ≡ line
    → length line + 20 ≤ 192 → n < 2 ^ 64 → length (decimal n) ≤ start
room_for_count bytes line start n long within is few fits =
    omega (arith, ap length is, length-drop start bytes, long, few, length-decimal-le 20 n (omega arith) (omega arith) fits)

-- where it isn't long, for one of at most 10 digits and a sign
pub room_for_value : (bytes line : List ℕ) (start n : ℕ) → length bytes ≡ 192 → start ≤ 192 → drop start bytes ≡ line
    → length line + 11 ≤ 192 → n < 2 ^ 32 → length (decimal n) + 1 ≤ start
room_for_value bytes line start n long within is few fits =
    omega (arith, ap length is, length-drop start bytes, long, few, length-decimal-le 10 n (omega arith) (omega arith) (omega (arith, fits)))

-- how long a line is with a number before it
pub longer_by_count : (old new : List ℕ) (n k : ℕ) → new ≡ decimal n ++ old → length (decimal n) ≤ k → length new ≤ length old + k
longer_by_count old new n k is few = omega (arith, ap length is, length-append (decimal n) old, few)

-- a sign before the digits of a number below 0
pub sign_before : (bytes : List ℕ) (at d : ℕ) (z : ℤ) (rest : List ℕ) → 1 ≤ at → at ≤ length bytes
    → drop at bytes ≡ decimal d ++ rest → d ≡ unsigned_abs z → int_le (pos 0) z ≡ false
    → drop (at - 1) (set bytes (at - 1) 45) ≡ signed_decimal z ++ rest
sign_before bytes at d z rest some within digits is below = grind (arith, drop-set, minus_first)

-- a number's text by its last digit, and the next number's where that isn't a 9
pub last_digit : (n : ℕ) → n + 1 < 2 ^ 64
    → (front : List ℕ) × (decimal n ≡ front ++ (48 + n % 10) ∷ [])
    × (n % 10 < 9 → decimal (n + 1) ≡ front ++ (48 + n % 10 + 1) ∷ [])
last_digit n fits =
    elim (cases_lt n 10) as (λ _. (front : List ℕ) × (decimal n ≡ front ++ (48 + n % 10) ∷ [])
    × (n % 10 < 9 → decimal (n + 1) ≡ front ++ (48 + n % 10 + 1) ∷ [])) [
      | inl small ↦ (
        [],
        decimal_digit n small ∙ ap (λ d. (48 + d) ∷ []) (omega arith),
        λ more. decimal_digit (n + 1) (omega arith) ∙ ap (λ d. d ∷ []) (omega arith),
      )
      | inr large ↦ (
        decimal (n / 10),
        decimal_step n large (omega arith),
        λ more. decimal_step (n + 1) (omega arith) fits
            ∙ ap (λ t. decimal t ++ (48 + (n + 1) % 10) ∷ []) (omega arith)
            ∙ ap (λ d. decimal (n / 10) ++ d ∷ []) (omega arith),
      )
    ]

-- the number that a line begins with, counted up by one in its last place
counted_up_in : (bytes rest : List ℕ) (start digits n last : ℕ) → digits ≡ length (decimal n)
    → drop start bytes ≡ decimal n ++ rest → last ≡ get_or bytes (start + digits - 1) 0 → last < 57 → n + 1 < 2 ^ 64
    → (digits ≡ length (decimal (n + 1)))
    × (drop start (set bytes (start + digits - 1) (last + 1)) ≡ decimal (n + 1) ++ rest)
counted_up_in bytes rest start digits n last long is last_is low fits =
    let split = last_digit n fits in
    let front = split.0 in
    let size : digits ≡ length front + 1 = long ∙ ap length split.1 ∙ length-append front _ in
    let place : start + digits - 1 ≡ start + length front = omega (arith, size) in
    grind (arith, append_assoc, get_or-drop, get_or_at, length-append, drop-set-add, set_at)

-- how many digits a block ends with
pub kept_digits : (block : List ℕ) (count n : ℕ) → length block ≡ 20 → count ≤ 20 → drop (20 - count) block ≡ decimal n
    → count ≡ length (decimal n)
kept_digits block count n long few is = omega (arith, ap length is, length-drop (20 - count) block, long, few)

-- a block's number, counted up by one in its last place
pub counted_up_alone : (block : List ℕ) (count n next last : ℕ) → length block ≡ 20 → count ≤ 20
    → drop (20 - count) block ≡ decimal n → last ≡ get_or block 19 0 → last < 57 → next ≡ n + 1 → next < 2 ^ 64
    → drop (20 - count) (set block 19 (last + 1)) ≡ decimal next
counted_up_alone block count n next last long few is last_is low one_more fits =
    let size = kept_digits block count n long few is in
    let fits' : n + 1 < 2 ^ 64 = omega (arith, one_more, fits) in
    let split = last_digit n fits' in
    let some : 1 ≤ count = omega (arith, size, ap length split.1, length-append split.0 ((48 + n % 10) ∷ [])) in
    let place : (20 - count) + count - 1 ≡ 19 = omega (arith, some, few) in
    let up = counted_up_in block [] (20 - count) count n last size
    (is ∙ sym (append-nil (decimal n))) (last_is ∙ ap (λ i. get_or block i 0) (sym place)) low fits' in
    ap (λ i. drop (20 - count) (set block i (last + 1))) (sym place) ∙ up.1 ∙ append-nil (decimal (n + 1)) ∙ ap decimal (sym one_more)

-- counted up by one where the last digit is a 9, and the one before it isn't
pub carried : (block : List ℕ) (count n next ten : ℕ) → length block ≡ 20 → count ≤ 20
    → drop (20 - count) block ≡ decimal n → get_or block 19 0 ≡ 57 → ten ≡ get_or block 18 0 → ten < 57
    → next ≡ n + 1 → 10 < next → next < 2 ^ 64
    → drop (20 - count) (set (set block 18 (ten + 1)) 19 48) ≡ decimal next
carried block count n next ten long few is nine ten_is low one_more large fits =
    let start = 20 - count in
    let front = decimal (n / 10) in
    let digit = 48 + n % 10 in
    let fits' : n + 1 < 2 ^ 64 = omega (arith, one_more, fits) in
    let is' : drop start block ≡ front ++ digit ∷ [] = is ∙ decimal_step n (omega (arith, one_more, large)) (omega (arith, fits')) in
    let size : count ≡ length front + 1 =
    kept_digits block count n long few is ∙ ap length (decimal_step n (omega (arith, one_more, large)) (omega (arith, fits')))
    ∙ length-append front (digit ∷ []) in
    let split = last_digit (n / 10) (omega (arith, fits')) in
    let some : 1 ≤ length front = omega (arith, ap length split.1, length-append split.0 ((48 + n / 10 % 10) ∷ [])) in
    let last_place : 19 ≡ start + length front = omega (arith, size, few) in
    let ten_place : start + length front - 1 ≡ 18 = omega (arith, size, few, some) in
    let digit_is : 57 ≡ digit =
    sym nine ∙ ap (λ i. get_or block i 0) last_place ∙ sym (get_or-drop start block (length front) 0)
    ∙ ap (λ xs. get_or xs (length front) 0) is' ∙ get_or_at front digit [] 0 (length front) refl in
    let up = counted_up_in block (digit ∷ []) start (length front) (n / 10) ten refl is'
    (ten_is ∙ ap (λ i. get_or block i 0) (sym ten_place)) low (omega (arith, fits')) in
    let first : drop start (set block 18 (ten + 1)) ≡ decimal (n / 10 + 1) ++ digit ∷ [] =
    ap (λ i. drop start (set block i (ten + 1))) (sym ten_place) ∙ up.1 in
    ap (λ i. drop start (set (set block 18 (ten + 1)) i 48)) last_place
    ∙ drop-set-add start (set block 18 (ten + 1)) (length front) 48
    ∙ ap (λ xs. set xs (length front) 48) first
    ∙ set_at (decimal (n / 10 + 1)) digit [] 48 (length front) (sym up.0)
    ∙ ap (λ k. decimal k ++ 48 ∷ []) (omega (arith, digit_is))
    ∙ ap (λ d. decimal ((n + 1) / 10) ++ d ∷ []) (omega (arith, digit_is))
    ∙ sym (decimal_step (n + 1) (omega (arith, one_more, large)) fits')
    ∙ ap decimal (sym one_more)

-- a block that ends with a number's digits, copied whole before a line that is begun with those digits alone
pub copied_block : (bytes block copied line : List ℕ) (start n count : ℕ) → length bytes ≡ 192 → start ≤ 192
    → drop start bytes ≡ line → length line + 20 ≤ 192 → copied ≡ block → length block ≡ 20
    → drop (20 - length (decimal n)) block ≡ decimal n → count ≡ length (decimal n) → count ≤ 20
    → drop (start - count) (put_mid (start - 20) (start - (start - 20)) bytes copied) ≡ decimal n ++ line
copied_block bytes block copied line start n count long within is room same size ends count_is few =
    let some : 20 ≤ start = omega (arith, ap length is, length-drop start bytes, long, room, within) in
    let whole : drop (start - 20) (put_mid (start - 20) (start - (start - 20)) bytes copied) ≡ copied ++ drop start bytes =
    drop_at (take (start - 20) bytes) _ (start - 20) (length-take-le (start - 20) bytes (omega (arith, long, within)))
    ∙ ap (λ xs. copied ++ xs) (drop-drop (start - (start - 20)) (start - 20) bytes ∙ ap (λ i. drop i bytes) (omega (arith, some))) in
    let place : start - count ≡ (start - 20) + (20 - count) = omega (arith, some, few) in
    ap (λ i. drop i (put_mid (start - 20) (start - (start - 20)) bytes copied)) place
    ∙ sym (drop-drop (20 - count) (start - 20) (put_mid (start - 20) (start - (start - 20)) bytes copied))
    ∙ ap (drop (20 - count)) (whole ∙ ap (λ xs. copied ++ xs) is ∙ ap (λ xs. xs ++ line) same)
    ∙ drop-append-le (20 - count) block line (omega (arith, size))
    ∙ ap (λ k. drop (20 - k) block ++ line) count_is
    ∙ ap (λ xs. xs ++ line) ends

-- whose turn or expiry a choice is, before a line
pub named_line : (new rest word : List ℕ) (choice : Choice) (step : ℕ)
    → new ≡ word ++ (decimal choice.thread ++ (codes " " ++ rest)) → (if choice.expiry then codes " x" else codes " t") ≡ word
    → decimal step ++ new ≡ choice_text step choice ++ rest
named_line new rest word choice step is named = grind (arith, append_assoc)

-- a number of two digits
pub two_digits : (n : ℕ) → 10 ≤ n → n < 100 → decimal n ≡ (48 + n / 10) ∷ (48 + n % 10) ∷ []
two_digits n large small = grind (arith, decimal_step, decimal_digit)
