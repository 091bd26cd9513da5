-- The first line of a file, and the parts before and after the run line.
use Rattle.std.proofs.Common.{◌≡◌, ◌∙◌, ◌+◌, ◌-◌, ◌<◌, ◌≤◌, ◌==◌, ◌&&◌, ℕ, true, false, List, [], ◌∷◌, ◌++◌, length, take, drop, cond, ap, sym, arith, inl, inr, ◌⊎◌, codes, take_all, drop-drop, append-nil, append_assoc, length-drop, take-append-drop, take-take}
use Rattle.std.proofs.lemmas.{Bool.cases_lt, Bool.Decides.nat_tests, List.take_more, List.drop_all, List.drop-take}
use Rattle.std.proofs.lemmas.List.Splits.{slice_split_first, slice_split_none, join_with_byte-slice_split, length-slice_split}
use Rattle.std.proofs.lemmas.List.Sums.{fails_before_first, passes_at_first}
use Rattle.std.specs.List.{slice_split, position_or_len, before_first, after_first, list_all, join_with_byte}
use Rattle.std.specs.Str.{bytes_eq}
use Rattle.line_reader.specs.Words.{is_line_end}
use Rattle.workbench.specs.RunLine.{is_run_line, are_run, after_run, before_run, schedule_part, program_part}

-- one word, and each word is `.run`
pub are_run_by_count : (ws : List (List ℕ))
    → are_run ws ≡ ((length ws == 1) && list_all (λ word. bytes_eq word (codes ".run")) ws)
are_run_by_count ws = grind arith

-- where no LF is left, the first line is the last
one_line : (bs : List ℕ) → length bs ≤ position_or_len is_line_end bs → slice_split is_line_end bs ≡ bs ∷ []
one_line bs none = grind (arith, slice_split_none, fails_before_first)

whole_line : (bs : List ℕ) → length bs ≤ position_or_len is_line_end bs → before_first is_line_end bs ≡ bs
whole_line bs none = take_all (position_or_len is_line_end bs) bs none

no_more : (bs : List ℕ) → length bs ≤ position_or_len is_line_end bs → after_first is_line_end bs ≡ []
no_more bs none = drop_all (position_or_len is_line_end bs + 1) bs (omega (arith, none))

-- the lines after a first line
after_run-run : (line : List ℕ) (lines : List (List ℕ)) → is_run_line line ≡ true → after_run (line ∷ lines) ≡ lines
after_run-run line lines h = ap (λ b. cond b lines (after_run lines)) h

after_run-next : (line : List ℕ) (lines : List (List ℕ)) → is_run_line line ≡ false → after_run (line ∷ lines) ≡ after_run lines
after_run-next line lines h = ap (λ b. cond b lines (after_run lines)) h

-- the lines from a first line on
before_run-run : (line : List ℕ) (lines : List (List ℕ)) → is_run_line line ≡ true → before_run (line ∷ lines) ≡ []
before_run-run line lines h = grind arith

before_run-last : (line : List ℕ) → is_run_line line ≡ false → before_run (line ∷ []) ≡ line
before_run-last line h = ap (λ b. cond b [] line) h

before_run-next : (line : List ℕ) (lines : List (List ℕ)) → 0 < length lines → is_run_line line ≡ false
    → before_run (line ∷ lines) ≡ line ++ (10 ∷ before_run lines)
before_run-next line lines some h = grind arith

-- by whether an LF is left
by_line_end : {P : Type 0} (bs : List ℕ)
    → (position_or_len is_line_end bs < length bs → P) → (length bs ≤ position_or_len is_line_end bs → P) → P
by_line_end bs more last =
    elim (cases_lt (position_or_len is_line_end bs) (length bs)) [ inl h ↦ more h | inr h ↦ last h ]

-- the first line is a run line
pub schedule_part-run : (bs : List ℕ) → is_run_line (before_first is_line_end bs) ≡ true
    → schedule_part bs ≡ after_first is_line_end bs
schedule_part-run bs h =
    by_line_end bs
    (λ more. ap (λ ls. join_with_byte 10 (after_run ls)) (slice_split_first is_line_end bs 0 more)
    ∙ ap (join_with_byte 10) (after_run-run (before_first is_line_end bs) (slice_split is_line_end (after_first is_line_end bs)) h)
    ∙ join_with_byte-slice_split 10 (after_first is_line_end bs))
    (λ last. ap (λ ls. join_with_byte 10 (after_run ls)) (one_line bs last)
    ∙ ap (join_with_byte 10) (after_run-run bs [] (ap is_run_line (sym (whole_line bs last)) ∙ h))
    ∙ sym (no_more bs last))

pub program_part-run : (bs : List ℕ) → is_run_line (before_first is_line_end bs) ≡ true → program_part bs ≡ []
program_part-run bs h = grind (arith, by_line_end, slice_split_first, before_run-run, one_line, whole_line)

-- the first line is no run line
pub schedule_part-next : (bs : List ℕ) → is_run_line (before_first is_line_end bs) ≡ false
    → schedule_part bs ≡ schedule_part (after_first is_line_end bs)
schedule_part-next bs h = grind (arith, by_line_end, slice_split_first, after_run-next, one_line, whole_line, no_more)

-- a line with its LF
line_with_end : (bs : List ℕ) → position_or_len is_line_end bs < length bs
    → take (position_or_len is_line_end bs + 1) bs ≡ before_first is_line_end bs ++ 10 ∷ []
line_with_end bs more =
    let end = passes_at_first is_line_end bs 0 more in
    grind (arith, nat_tests, take_more)

pub program_part-next : (bs : List ℕ) → is_run_line (before_first is_line_end bs) ≡ false
    → program_part bs ≡ take (position_or_len is_line_end bs + 1) bs ++ program_part (after_first is_line_end bs)
program_part-next bs h = grind (arith, by_line_end, length-slice_split, slice_split_first, before_run-next, append_assoc, line_with_end, one_line, before_run-last, whole_line, append-nil, take_all, no_more)

take_in_two : (n m : ℕ) (bs : List ℕ) → take n bs ++ take m (drop n bs) ≡ take (n + m) bs
take_in_two n m bs =
    ap (λ xs. xs ++ take m (drop n bs)) (sym (take-take n (n + m) bs (omega arith)))
    ∙ ap (λ xs. take n (take (n + m) bs) ++ xs) (sym (drop-take n m bs))
    ∙ take-append-drop n (take (n + m) bs)

-- as far as the list goes
take_same : (bs : List ℕ) (n k : ℕ) → (k ≡ n) ⊎ ((length bs ≤ n) × (length bs ≤ k)) → take k bs ≡ take n bs
take_same bs n k given = grind (arith, take_all)

-- up to what is left, after one line more
pub take_up_to : (bs : List ℕ) (n m : ℕ) → n ≤ length bs
    → take (length bs - length (drop m (drop n bs))) bs ≡ take n bs ++ take m (drop n bs)
take_up_to bs n m within = grind (arith, length-drop, take_same, cases_lt, take_in_two)

drop_same : (bs : List ℕ) (n k : ℕ) → (k ≡ n) ⊎ ((length bs ≤ n) × (length bs ≤ k)) → drop k bs ≡ drop n bs
drop_same bs n k given = grind (arith, drop_all)

-- what is left after one line more is the end of the bytes
drop_up_to : (bs : List ℕ) (n m : ℕ) → n ≤ length bs
    → drop m (drop n bs) ≡ drop (length bs - length (drop m (drop n bs))) bs
drop_up_to bs n m within = grind (arith, length-drop, drop-drop, drop_same, cases_lt)

-- one line further
pub next_rest : (bs rest after : List ℕ) → length rest ≤ length bs → rest ≡ drop (length bs - length rest) bs
    → after ≡ after_first is_line_end rest → after ≡ drop (length bs - length after) bs
next_rest bs rest after within e a = grind (arith, drop_up_to)

pub next_text : (bs rest after : List ℕ) → length rest ≤ length bs → rest ≡ drop (length bs - length rest) bs
    → after ≡ after_first is_line_end rest → is_run_line (before_first is_line_end rest) ≡ false
    → program_part bs ≡ take (length bs - length rest) bs ++ program_part rest
    → program_part bs ≡ take (length bs - length after) bs ++ program_part after
next_text bs rest after within e a h text = grind (arith, take_up_to, program_part-next, append_assoc)
