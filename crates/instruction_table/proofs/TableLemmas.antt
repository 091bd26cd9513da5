use Rattle.std.proofs.Common.{◌≡◌, ℕ, zero, suc, ◌+◌, ◌<◌, ◌≤◌, nat_lt, Bool, true, false, cond, not, ◌&&◌, ◌==◌, List, [], ◌∷◌, length, Some, unwrap_or, IfSome, All, slice_index_or, bytes_eq, refl, ap, sym, subst, ◌∙◌, arith, rules, zero-add}
use Rattle.std.proofs.lemmas.{Bool.Decides.nat_tests, Grind.common_steps, List.get_or_default}
use Rattle.instruction_table.specs.Table.{Entry, no_entry, entry_named, table}

-- a test: no entry has this word
abbrev pub lacks : List Entry → List ℕ → Bool
lacks [] word = true
lacks (e ∷ es) word = not (bytes_eq word e.word) && lacks es word

-- a test over a whole table: no two entries have one word
abbrev pub are_distinct : List Entry → Bool
are_distinct [] = true
are_distinct (e ∷ es) = lacks es e.word && are_distinct es

-- a test over a whole table: each opcode is the entry's place, counted from n
abbrev pub are_placed : ℕ → List Entry → Bool
are_placed n [] = true
are_placed n (e ∷ es) = (e.opcode == n) && are_placed (n + 1) es

-- a test over a whole table: no entry has more than four operands
abbrev pub are_short : List Entry → Bool
are_short [] = true
are_short (e ∷ es) = nat_lt (length e.operands) 5 && are_short es

pub same_word : (word : List ℕ) → bytes_eq word word ≡ true
same_word word = search rules

-- an entry of a list that lacks a word has another word
lacks-at : (es : List Entry) (k : ℕ) (d : Entry) (word : List ℕ) →
    lacks es word ≡ true → k < length es → bytes_eq word (slice_index_or es k d).word ≡ false
lacks-at [] k d word absent within = absurd (omega (arith, within))
lacks-at (x ∷ xs) zero d word absent within = grind (arith, common_steps, absent)
lacks-at (x ∷ xs) (suc j) d word absent within = grind (arith, common_steps, lacks-at xs j d word)

-- each entry of a table with distinct words is found by its word
pub found_by_word : (es : List Entry) (k : ℕ) (d : Entry) → are_distinct es ≡ true → k < length es →
    entry_named es (slice_index_or es k d).word ≡ Some (slice_index_or es k d)
found_by_word [] k d distinct within = absurd (omega (arith, within))
found_by_word (x ∷ xs) zero d distinct within = grind (arith, common_steps, same_word x.word)
found_by_word (x ∷ xs) (suc j) d distinct within = grind (arith, common_steps, lacks-at xs j d x.word, found_by_word xs j d)

-- each opcode of a table in order is the entry's place
pub opcode-at : (es : List Entry) (n k : ℕ) (d : Entry) → are_placed n es ≡ true → k < length es →
    (slice_index_or es k d).opcode ≡ n + k
opcode-at [] n k d placed within = absurd (omega (arith, within))
opcode-at (x ∷ xs) n zero d placed within = grind (arith, common_steps)
opcode-at (x ∷ xs) n (suc j) d placed within = grind (arith, common_steps, opcode-at xs (n + 1) j d)

short-at : (es : List Entry) (k : ℕ) (d : Entry) → are_short es ≡ true → k < length es →
    length (slice_index_or es k d).operands ≤ 4
short-at [] k d short within = absurd (omega (arith, within))
short-at (x ∷ xs) zero d short within = grind (arith, nat_tests, common_steps, short)
short-at (x ∷ xs) (suc j) d short within = grind (arith, common_steps, short-at xs j d)

-- what a look-up finds is an entry
pub found_is_entry : (P : Entry → Type 0) (es : List Entry) (word : List ℕ) → All P es → IfSome (entry_named es word) P
found_is_entry P [] word each = tt
found_is_entry P (x ∷ xs) word each =
    let rest : All P xs = λ k d within. each (suc k) d (omega (arith, within)) in
    elim (bytes_eq x.word word) as (λ same. IfSome (cond same (Some x) (entry_named xs word)) P)
    [ true ↦ each 0 x (omega arith) | false ↦ found_is_entry P xs word rest ]

-- the instruction table passes both tests
pub table_distinct : are_distinct table ≡ true
table_distinct = refl

pub table_placed : are_placed 0 table ≡ true
table_placed = refl

-- an entry that a look-up finds has at most four operands
pub named_is_short : (word : List ℕ) → IfSome (entry_named table word) (λ e. length e.operands ≤ 4)
named_is_short word = search (rules, found_is_entry, short-at)

-- an entry that a look-up finds stands at the place of its opcode
pub named_is_placed : (word : List ℕ) → IfSome (entry_named table word) (λ e. slice_index_or table e.opcode no_entry ≡ e)
named_is_placed word =
    let P : Entry → Type 0 = λ e. slice_index_or table e.opcode no_entry ≡ e in
    found_is_entry P table word
    (λ k d within. ap (λ at. slice_index_or table at no_entry) (opcode-at table 0 k d table_placed within ∙ zero-add k)
    ∙ get_or_default table k no_entry d within)

-- an entry that a look-up finds stands within the table
pub named_is_within : (word : List ℕ) → IfSome (entry_named table word) (λ e. e.opcode < length table)
named_is_within word =
    found_is_entry (λ e. e.opcode < length table) table word
    (λ k d within. subst (λ n. n < length table) (sym (opcode-at table 0 k d table_placed within ∙ zero-add k)) within)

-- an entry that a look-up finds is the only one with its word
pub named_is_only : (word : List ℕ) (a : Entry) → entry_named table word ≡ Some a → All (λ e. e.word ≡ word → e ≡ a) table
named_is_only word a found = λ k d within same.
    ap (λ o. unwrap_or o a) (sym (found_by_word table k d table_distinct within) ∙ ap (entry_named table) same ∙ found)
