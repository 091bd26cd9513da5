-- A fold over the words of a line and over the lines of a text, one more at a time.
use Rattle.std.proofs.Common.{◌≡◌, ◌≢◌, ◌∙◌, ◌+◌, ◌<◌, ◌≤◌, ℕ, Bool, List, [], ◌∷◌, ◌++◌, length, take, drop, ap, arith, Result, Ok, take_all}
use Rattle.std.proofs.lemmas.{Bool.Decides.nat_tests, List.Splits.slice_split_first, List.Splits.slice_split_none}
use Rattle.std.proofs.lemmas.List.Sums.{fails_before_first, prefix_len-le-length}
use Rattle.std.specs.List.{position_or_len, slice_split}
use Rattle.row_code.specs.Answers.{FailsUnless}
use Rattle.line_reader.specs.Words.{is_line_end, words_in}
use Rattle.plans.specs.{Cutting.word_alone, declared.fault.PlanFault.PlanFault, Reading.Name, Words.spread, Words.words_of}
use Rattle.plans.specs.Plan.{Draft, word_behind, words_behind, lines_behind}

pub next_word : (names : List Name) (line : ℕ) (text : List ℕ) (n : ℕ) (before after : Draft) (all : Result Draft PlanFault)
    → n ≢ 0 → n ≤ length text → words_in (spread text) ≡ word_alone (take n text) ++ words_in (spread (drop n text))
    → words_behind names line before (words_in (spread text)) ≡ all → word_behind names line before (take n text) ≡ Ok after
    → words_behind names line after (words_in (spread (drop n text))) ≡ all
next_word names line text n before after all some within cut so ok = grind arith

pub faulty_word : (names : List Name) (line : ℕ) (text : List ℕ) (n : ℕ) (before : Draft) (all : Result Draft PlanFault)
    (memory : Bool) (fault : PlanFault)
    → n ≢ 0 → n ≤ length text → words_in (spread text) ≡ word_alone (take n text) ++ words_in (spread (drop n text))
    → words_behind names line before (words_in (spread text)) ≡ all
    → FailsUnless memory fault (word_behind names line before (take n text)) → FailsUnless memory fault all
faulty_word names line text n before all memory fault some within cut so fails = grind arith

-- the last line
last_cut : (text : List ℕ) → position_or_len is_line_end text ≡ length text
    → slice_split is_line_end text ≡ take (position_or_len is_line_end text) text ∷ []
last_cut text all = grind (arith, slice_split_none, fails_before_first, take_all)

pub next_line : (names : List Name) (n : ℕ) (text : List ℕ) (before after : Draft) (all : Result Draft PlanFault)
    → position_or_len is_line_end text < length text → lines_behind names n before (slice_split is_line_end text) ≡ all
    → words_behind names n before (words_of (take (position_or_len is_line_end text) text)) ≡ Ok after
    → lines_behind names (n + 1) after (slice_split is_line_end (drop (position_or_len is_line_end text + 1) text)) ≡ all
next_line names n text before after all within so ok = grind (arith, slice_split_first)

pub last_line : (names : List Name) (n : ℕ) (text : List ℕ) (before after : Draft) (all : Result Draft PlanFault)
    → position_or_len is_line_end text ≡ length text → lines_behind names n before (slice_split is_line_end text) ≡ all
    → words_behind names n before (words_of (take (position_or_len is_line_end text) text)) ≡ Ok after → all ≡ Ok after
last_line names n text before after all whole so ok = grind (arith, last_cut)

-- the lines that begin with one that is faulty
pub faulty_line : (names : List Name) (n : ℕ) (text : List ℕ) (before : Draft) (all : Result Draft PlanFault) (memory : Bool) (fault : PlanFault)
    → lines_behind names n before (slice_split is_line_end text) ≡ all
    → FailsUnless memory fault (words_behind names n before (words_of (take (position_or_len is_line_end text) text)))
    → FailsUnless memory fault all
faulty_line names n text before all memory fault so fails = grind (arith, nat_tests, slice_split_first, prefix_len-le-length, last_cut)

-- a line as it was cut
pub before_end : (text line : List ℕ) (n : ℕ) → line ≡ take n text → n ≡ position_or_len is_line_end text
    → line ≡ take (position_or_len is_line_end text) text
before_end text line n is first = is ∙ ap (λ k. take k text) first
