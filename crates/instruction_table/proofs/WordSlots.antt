-- Where a word's entry is: by its slot, of which no two words of the table have the same.
use Rattle.std.proofs.Common.{◌≡◌, ℕ, zero, suc, ◌+◌, ◌*◌, ◌-◌, ◌%◌, ◌<◌, nat_lt, Bool, true, false, ◌&&◌, ◌==◌, List, [], ◌∷◌, length, Option, Some, None, cond, IfSome, slice_index, slice_index_or, bytes_eq, refl, ap, sym, subst, ◌∙◌, arith, rules, zero-add}
use Rattle.std.proofs.lemmas.Option.{slice_get-get_or, get_or_from_slice_get, slice_get_within}
use Rattle.std.proofs.lemmas.Slice.Eq.{bytes_eq-Decides}
use Rattle.std.specs.List.{slice_get}
use Rattle.instruction_table.specs.declared.table.TheConstants.{PLACES}
use Rattle.instruction_table.specs.Table.{Entry, no_entry, entry_named, filled_by, table}
use Rattle.instruction_table.proofs.TableLemmas.{found_by_word, found_is_entry, opcode-at, same_word, table_distinct, table_placed}

-- a word's slot: from its length, its first two bytes and its last one
abbrev pub slot : List ℕ → ℕ
slot word =
    (length word + (slice_index word 0 + 5 * slice_index word 1 + 13 * slice_index word (length word - 1))) % 128

-- a test over a whole table: each word has three letters or more, and its slot leads to its entry
abbrev are_slotted : List Entry → Bool
are_slotted [] = true
are_slotted (e ∷ es) =
    nat_lt 2 (length e.word) && ((slice_index PLACES (slot e.word) == e.opcode) && are_slotted es)

-- what the test says of an entry
abbrev IsSlotted : Entry → Type 0
IsSlotted e = (2 < length e.word) × (slice_index PLACES (slot e.word) ≡ e.opcode)

slotted_parts : (e : Entry) (es : List Entry) → are_slotted (e ∷ es) ≡ true → IsSlotted e × (are_slotted es ≡ true)
slotted_parts e es is = search (rules, is)

slotted-at : (es : List Entry) (k : ℕ) (d : Entry) → are_slotted es ≡ true → k < length es → IsSlotted (slice_index_or es k d)
slotted-at [] k d slotted within = absurd (omega (arith, within))
slotted-at (x ∷ xs) zero d slotted within = (slotted_parts x xs slotted).0
slotted-at (x ∷ xs) (suc j) d slotted within = slotted-at xs j d (slotted_parts x xs slotted).1 (omega (arith, within))

table_slotted : are_slotted table ≡ true
table_slotted = refl

-- what a look-up finds has the word
named_has_word : (es : List Entry) (word : List ℕ) → IfSome (entry_named es word) (λ e. e.word ≡ word)
named_has_word [] word = tt
named_has_word (x ∷ xs) word = grind (arith, bytes_eq-Decides, named_has_word xs word)

has_word : (word : List ℕ) (e : Entry) → entry_named table word ≡ Some e → e.word ≡ word
has_word word e is = subst (λ o. IfSome o (λ e. e.word ≡ word)) is (named_has_word table word)

is_slotted : (word : List ℕ) (e : Entry) → entry_named table word ≡ Some e → IsSlotted e
is_slotted word e is =
    subst (λ o. IfSome o IsSlotted) is
    (found_is_entry IsSlotted table word (λ k d within. slotted-at table k d table_slotted within))

-- the slot of a word leads to the place of its entry
pub place_by_slot : (word : List ℕ) (e : Entry) → entry_named table word ≡ Some e → slice_index PLACES (slot word) ≡ e.opcode
place_by_slot word e is =
    ap (λ (w : List ℕ). slice_index PLACES (slot w)) (sym (has_word word e is)) ∙ (is_slotted word e is).1

-- a word of the table has three letters or more
pub is_long : (word : List ℕ) (e : Entry) → entry_named table word ≡ Some e → 2 < length word
is_long word e is = subst (λ (w : List ℕ). 2 < length w) (has_word word e is) (is_slotted word e is).0

-- an entry stands at the place of its opcode
stands_there : (word : List ℕ) (e : Entry) → entry_named table word ≡ Some e → slice_get table e.opcode ≡ Some e
stands_there word e is =
    let P : Entry → Type 0 = λ e. slice_get table e.opcode ≡ Some e in
    subst (λ o. IfSome o P) is
    (found_is_entry P table word
    (λ k d within. ap (λ at. slice_get table at) (opcode-at table 0 k d table_placed within ∙ zero-add k)
    ∙ slice_get-get_or table k d within))

-- an entry anywhere in the table is found by its word
is_found : (place : ℕ) (x : Entry) → slice_get table place ≡ Some x → entry_named table x.word ≡ Some x
is_found place x there =
    let same : slice_index_or table place no_entry ≡ x = get_or_from_slice_get table place x no_entry there in
    subst (λ (e : Entry). entry_named table e.word ≡ Some e) same
    (found_by_word table place no_entry table_distinct (slice_get_within table place x there))

lacking : (word : List ℕ) (x : Entry) (same : Bool) → bytes_eq x.word word ≡ same → entry_named table word ≡ None →
    entry_named table x.word ≡ Some x → cond same (Some x) None ≡ None
lacking word x false is none found = refl
lacking word x true is none found = grind (arith, bytes_eq-Decides)

nothing_there : (word : List ℕ) (place : ℕ) (there : Option Entry) → slice_get table place ≡ there →
    entry_named table word ≡ None → filled_by word there ≡ None
nothing_there word place there is none = grind (arith, lacking, is_found)

one_there : (word : List ℕ) (e : Entry) → entry_named table word ≡ Some e → filled_by word (slice_get table e.opcode) ≡ Some e
one_there word e is =
    let same : bytes_eq e.word word ≡ true = subst (λ (w : List ℕ). bytes_eq e.word w ≡ true) (has_word word e is) (same_word e.word) in
    rw (stands_there word e is, same) refl

by_place : (word : List ℕ) (place : ℕ) (found : Option Entry) → entry_named table word ≡ found →
    ((e : Entry) → entry_named table word ≡ Some e → place ≡ e.opcode) → filled_by word (slice_get table place) ≡ found
by_place word place None is leads = nothing_there word place (slice_get table place) refl is
by_place word place (Some e) is leads =
    ap (λ at. filled_by word (slice_get table at)) (leads e is) ∙ one_there word e is

-- the entry at a place that a word leads to, where it has this word, is the one with the word
pub found_there : (word : List ℕ) (place : ℕ) → ((e : Entry) → entry_named table word ≡ Some e → place ≡ e.opcode) →
    filled_by word (slice_get table place) ≡ entry_named table word
found_there word place leads = by_place word place (entry_named table word) refl leads
