-- The entries of words, beside the instruction table.
use Rattle.std.proofs.Common.{◌≡◌, ◌≤◌, ◌<◌, ◌-◌, ◌∙◌, ◌++◌, ℕ, zero, suc, List, [], ◌∷◌, length, take, drop, Option, Some, None, IfSome, slice_index_or, ap, sym, subst, arith, inl, inr, MatchOption, ◌≢◌, true, false, nat_lt, slice_get, take_all}
use Rattle.std.proofs.lemmas.{Grind.common_steps, Bool.Decides.nat_tests, Option.slice_get-get_or}
use Rattle.std.specs.{Borrow.Bor, List.flat_map}
use Rattle.instruction_table.specs.declared.shape.Shape.{Shape}
use Rattle.instruction_table.specs.Table.{Entry, entry_named, entry_of, no_entry, table}
use Rattle.instruction_table.proofs.TableLemmas.{named_is_within}
use Rattle.line_reader.specs.Reading.{is_directive}
use Rattle.refusals.specs.declared.word.WordEntry.{WordEntry}
use Rattle.refusals.specs.Word.{IsItsWord, IsNoWord, IsRowEntry, form_of, row_spellings, spellings}

-- what stands at a place of a list before another one, and behind it
pub get_there : {X : Type 0} (xs ys : List X) (k : ℕ) (x : X) → slice_get xs k ≡ Some x → slice_get (xs ++ ys) k ≡ Some x
get_there [] ys k x is = absurd (cc is)
get_there (y ∷ xs) ys zero x is = is
get_there (y ∷ xs) ys (suc k) x is = get_there xs ys k x is

pub get_behind : {X : Type 0} (xs ys : List X) (k : ℕ) → length xs ≤ k → slice_get (xs ++ ys) k ≡ slice_get ys (k - length xs)
get_behind [] ys k within = grind arith
get_behind (y ∷ xs) ys zero within = absurd (omega (arith, within))
get_behind (y ∷ xs) ys (suc k) within = grind (arith, get_behind xs ys k (omega (arith, within)))

-- the same of tables that follow one another
abbrev pub entries_of : List (Bor (List WordEntry)) → List WordEntry
entries_of tables = flat_map (λ rows. rows.now) tables

pub in_first : (tables : List (Bor (List WordEntry))) (d : Bor (List WordEntry)) (k : ℕ) (e : WordEntry) → 1 ≤ length tables
    → true ≡ nat_lt k (length (slice_index_or tables 0 d).now) → e ≡ slice_index_or (slice_index_or tables 0 d).now k e
    → Some e ≡ slice_get (entries_of tables) k
in_first [] d k e some there is = absurd (omega (arith, some))
in_first (rows ∷ tables) d k e some there is =
    sym (get_there rows.now (entries_of tables) k e
    (slice_get-get_or rows.now k e (grind (arith, nat_tests, there)) ∙ ap (λ x. Some x) (sym is)))

pub in_others : (tables : List (Bor (List WordEntry))) (d : Bor (List WordEntry)) (k : ℕ) (found : Option WordEntry) → 1 ≤ length tables
    → false ≡ nat_lt k (length (slice_index_or tables 0 d).now)
    → found ≡ slice_get (entries_of (take (length tables - 1) (drop 1 tables))) (k - length (slice_index_or tables 0 d).now)
    → found ≡ slice_get (entries_of tables) k
in_others [] d k found some none is = absurd (omega (arith, some))
in_others (rows ∷ tables) d k found some none is =
    is
    ∙ ap (λ others. slice_get (entries_of others) (k - length rows.now)) (take_all (length (rows ∷ tables) - 1) tables (omega arith))
    ∙ sym (get_behind rows.now (entries_of tables) k (grind (arith, nat_tests, none)))

-- entries that are spelled as rows are those of the rows
pub entry_of_row : (entries : List WordEntry) (rows : List Entry) (k : ℕ) → spellings entries ≡ row_spellings rows
    → MatchOption (slice_get entries k) (length rows ≤ k)
    (λ e. (e.word.now ≡ (slice_index_or rows k no_entry).word) × (e.form.now ≡ form_of (slice_index_or rows k no_entry)))
entry_of_row [] [] k same = omega arith
entry_of_row [] (row ∷ rows) k same = absurd (cc same)
entry_of_row (e ∷ entries) [] k same = absurd (cc same)
entry_of_row (e ∷ entries) (row ∷ rows) zero same =
    let first : (e.word.now, e.form.now) ≡ (row.word, form_of row) = cc same in
    (ap (λ (s : List ℕ × List ℕ). s.0) first, ap (λ (s : List ℕ × List ℕ). s.1) first)
entry_of_row (e ∷ entries) (row ∷ rows) (suc k) same = grind (arith, common_steps, entry_of_row entries rows k (cc same))

-- what is told of the row that a word begins
pub row_told : (word : List ℕ) (s : Shape) (told : Option WordEntry) → Some (entry_of s) ≡ entry_named table word
    → slice_index_or table s.opcode no_entry ≡ entry_of s → MatchOption told (length table ≤ s.opcode) (IsRowEntry s.opcode)
    → MatchOption told (IsNoWord word) (λ e. IsItsWord e word)
row_told word s None named placed none =
    let small : s.opcode < length table = subst (λ found. IfSome found (λ e. e.opcode < length table)) (sym named) (named_is_within word) in
    absurd (omega (arith, small, none))
row_told word s (Some e) named placed (is, form) =
    inl (entry_of s, sym named, is ∙ ap (λ row. row.word) placed, form ∙ ap form_of placed)

-- what is told of a word that begins no row
pub directive_told : (word : List ℕ) (told : Option WordEntry) → None ≡ entry_named table word
    → MatchOption told (is_directive word ≢ true) (λ (e : WordEntry). e.word.now ≡ word)
    → MatchOption told (IsNoWord word) (λ e. IsItsWord e word)
directive_told word None named none = ((λ row is. grind (arith, named, is)), none)
directive_told word (Some e) named is = inr (sym named, is)
