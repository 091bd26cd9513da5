-- The run's own lines at the beginning of bytes of a trace, and another line there that names a choice.
use Rattle.std.proofs.Common.{◌≡◌, ◌≢◌, ◌∙◌, ◌+◌, ◌<◌, ◌≤◌, ◌^◌, ◌&&◌, ◌⊎◌, ℕ, true, false, zero, suc, List, [], ◌∷◌, ◌++◌, length, drop, take, cond, Some, refl, ap, sym, subst, arith, append_assoc, append-nil, length-append, length-drop, take-append-drop, inl, inr, decimal, drop-drop}
use Rattle.std.proofs.{lemmas.Bool.false_from_ne_true, Math.Seq.take-add, Math.Seq.take-append_seam, lemmas.List.take-append-le}
use Rattle.std.proofs.lemmas.List.{Elements.All-head, Elements.All-tail, Sums.sum_by-append, Sums.sum_by-cons}
use Rattle.std.proofs.lemmas.{List.Splits.join_with_byte-slice_split, List.Splits.length-slice_split, Slice.Eq.bytes_eq-Decides}
use Rattle.std.specs.{List.join_with_byte, List.slice_split, Str.bytes_eq}
use Rattle.byte_ports.specs.SourceLines.{IsOneLine}
use Rattle.line_reader.specs.Words.{is_line_end}
use Rattle.thread_machine.specs.{declared.choice.Choice.Choice, Step.played, World.world_of}
use Rattle.trace_compare.specs.declared.comparison.Comparison.{Comparison}
use Rattle.trace_compare.specs.Compare.{choices_in, line_at, lines_verdict, otherwise}
use Rattle.trace_compare.specs.Comparing.{GoesOver, IsReading, bytes_left, line_ends, line_played, lines_left, reported_left}
use Rattle.trace_text.specs.{Reading.choice_in, Reading.is_state_line, Reading.NamesBehind, Lines.choice_text}
use Rattle.trace_text.specs.Trace.{Plays, lines_of}
use Rattle.trace_text.proofs.{Naming.choice-part, Naming.line-no_state, Naming.line_names, WholeLines.no_end}
use Rattle.trace_compare.proofs.{NamedLines.begun-line, NamedLines.whole-line, OwnTrace.own-line}
use Rattle.trace_compare.proofs.RunLines.{first-own, meets-choice, text-choice, text-missed, told-alike, told-met}
use Rattle.trace_compare.proofs.Verdicts.{choice-other, choice-same, left-lines, lines-choice}

-- ---- how many lines end in bytes

pub ends-append : (xs ys : List ℕ) → line_ends (xs ++ ys) ≡ line_ends xs + line_ends ys
ends-append xs ys = sum_by-append (λ b. cond (is_line_end b) 1 0) xs ys

-- with bytes of one line behind them
pub ends-behind : (xs line : List ℕ) → IsOneLine line → line_ends (xs ++ line) ≡ line_ends xs
ends-behind xs line one = omega (arith, ends-append xs line, none line one)
  where
    none : (line : List ℕ) → IsOneLine line → line_ends line ≡ 0
    none [] one = refl
    none (x ∷ xs) one =
        sum_by-cons (λ b. cond (is_line_end b) 1 0) x xs
        ∙ ap (λ b. cond b 1 0 + line_ends xs) (All-head (λ b. is_line_end b ≡ false) x xs one)
        ∙ omega (arith, none xs (All-tail (λ b. is_line_end b ≡ false) x xs one))

-- with a line behind them
pub ends-line : (xs line : List ℕ) → IsOneLine line → line_ends (xs ++ (line ++ 10 ∷ [])) ≡ line_ends xs + 1
ends-line xs line one =
    let last : line_ends (10 ∷ []) ≡ 1 = refl in
    omega (arith, ends-append xs (line ++ 10 ∷ []), ends-append line (10 ∷ []), ends-behind [] line one, last)

-- ---- lines that are the run's

-- more bytes behind others
pub Goes-more : (a b c : Comparison) (bytes rest : List ℕ) (done count : ℕ) → rest ≡ drop done bytes → GoesOver a b bytes done
    → GoesOver b c rest count → GoesOver a c bytes (done + count)
Goes-more a b c bytes rest done count is one two = grind (arith, length-drop, drop-drop, take-add, ends-append)

-- the bytes begin with the run's line of the choice
pub met : (before after : Comparison) (choice : Choice) (text bytes : List ℕ) (count : ℕ) → IsReading before → IsReading after
    → after.number ≡ before.number + 1 → after.text ≡ before.text → after.at ≡ before.at
    → (world_of before.machine).choices ≤ 1000000000000 → choice.thread ≤ 63
    → Plays (world_of before.machine) (world_of after.machine) (choice ∷ []) true (Some []) (Some text)
    → take (length text) bytes ≡ text → length text ≤ length bytes → count ≡ length text → GoesOver before after bytes count
met before after choice text bytes count reading still next text_is at_is few there p same room is =
    let world = world_of before.machine in
    let own = own-line world choice few there in
    let whole : text ≡ own.line ++ 10 ∷ [] = p.lines ∙ own.is in
    let one : line_ends text ≡ 1 = ap line_ends whole ∙ ends-line [] own.line (no_end own.line own.within) in
    subst (GoesOver before after bytes) (sym is) (record {
      within = room;
      left = λ more.
          let rest = drop (length text) bytes ++ more in
          let lines = slice_split is_line_end rest in
          let all : bytes ++ more ≡ (own.line ++ 10 ∷ []) ++ rest =
          ap (λ bs. bs ++ more)
          (sym (take-append-drop (length text) bytes) ∙ ap (λ t. t ++ drop (length text) bytes) (same ∙ whole))
          ∙ append_assoc (own.line ++ 10 ∷ []) (drop (length text) bytes) more in
          ap (reported_left before) (ap (slice_split is_line_end) all ∙ whole-line own.line rest (no_end own.line own.within))
          ∙ told-met before after own.line lines (no_end own.line own.within) (omega (arith, length-slice_split is_line_end rest)) next
          (left-lines before (own.line ∷ lines) reading.0
          ∙ lines-choice before.accepted world before.number own.line lines own.no_state
          ∙ choice-same (choice_in own.line) choice before.accepted true world (world_of after.machine) before.number own.line text
          (λ accepted after. lines_verdict accepted after (before.number + 1) lines) own.names reading.1
          ((bytes_eq-Decides (own.line ++ (10 ∷ [])) text).1 (sym whole)) p
          ∙ ap (λ n. lines_verdict true (world_of after.machine) n lines) (sym next)
          ∙ ap (λ a. lines_verdict a (world_of after.machine) after.number lines) (sym still.1)
          ∙ sym (left-lines after lines still.0))
          (meets-choice before after choice true own.line text lines reading.0 reading.1 still.0 still.1
          (λ no. let wrong : ⊥ = cc in absurd wrong) own.no_state own.names (sym whole) p);
      counted = omega (arith, ap line_ends same, one, next);
      number = omega (arith, next, ap length whole, length-append own.line (10 ∷ []));
      text = text_is;
      at = at_is;
    })

-- ---- a line that isn't

-- the first line of bytes stands at their beginning, and an LF behind it unless they end there
first_part : (all line : List ℕ) (lines : List (List ℕ)) → slice_split is_line_end all ≡ line ∷ lines
    → (rest : List ℕ) × ((all ≡ line ++ rest) × ((rest ≡ []) ⊎ ((more : List ℕ) × (rest ≡ 10 ∷ more))))
first_part all line lines is = by lines (sym (join_with_byte-slice_split 10 all) ∙ ap (join_with_byte 10) is)
  where
    by : (lines : List (List ℕ)) → all ≡ join_with_byte 10 (line ∷ lines)
        → (rest : List ℕ) × ((all ≡ line ++ rest) × ((rest ≡ []) ⊎ ((more : List ℕ) × (rest ≡ 10 ∷ more))))
    by [] whole = ([], (whole ∙ sym (append-nil line), inl refl))
    by (next ∷ lines) whole = (10 ∷ join_with_byte 10 (next ∷ lines), (whole, inr (join_with_byte 10 (next ∷ lines), refl)))

-- so where it has its LF within bytes, they begin with both
first_of : (bytes more line rest : List ℕ) → bytes ++ more ≡ line ++ rest → (rest ≡ []) ⊎ ((behind : List ℕ) × (rest ≡ 10 ∷ behind))
    → length line + 1 ≤ length bytes → take (length line + 1) bytes ≡ line ++ (10 ∷ [])
first_of bytes more line rest is (inl none) few =
    absurd (omega (arith, few, ap length is, length-append bytes more, length-append line rest, ap length none))
first_of bytes more line rest is (inr (behind, lf)) few =
    let size : length line + 1 ≡ length (line ++ 10 ∷ []) = sym (length-append line (10 ∷ [])) in
    sym (take-append-le (length line + 1) bytes more few)
    ∙ ap (take (length line + 1)) (is ∙ ap (λ r. line ++ r) lf ∙ sym (append_assoc line (10 ∷ []) behind))
    ∙ ap (λ n. take n ((line ++ 10 ∷ []) ++ behind)) size ∙ take-append_seam (line ++ 10 ∷ []) behind

-- they don't begin with the run's line of a choice that is named where the next line names its own, behind its number
missed : (before after : Comparison) (choice : Choice) (text bytes more : List ℕ) → IsReading before
    → after.is_state ≡ false → after.accepted ≡ false → after.missed ≡ true → after.expected ≡ text → after.number ≡ before.number
    → (world_of before.machine).choices ≤ 1000000000000
    → NamesBehind bytes (decimal ((world_of before.machine).choices + 1)) choice
    → lines_of (world_of before.machine) (choice ∷ []) ≡ text → length text ≤ length bytes → (take (length text) bytes ≡ text → ⊥)
    → bytes_left before (bytes ++ more) ≡ bytes_left after (bytes ++ more)
missed before after choice text bytes more reading still none lost kept same few (number, (there, (behind, name))) text_is size other =
    let world = world_of before.machine in
    let step = world.choices + 1 in
    let front = choice_text step choice in
    let small : step < 10 ^ 13 = omega (arith, few) in
    let bytes_is : bytes ≡ front ++ behind =
    sym (take-append-drop (length (decimal step)) bytes) ∙ ap (λ t. t ++ drop (length (decimal step)) bytes) number
    ∙ ap (λ t. decimal step ++ t) name ∙ sym (append_assoc (decimal step) _ behind) in
    let all : bytes ++ more ≡ front ++ (behind ++ more) = ap (λ bs. bs ++ more) bytes_is ∙ append_assoc front behind more in
    let (h, (lines, begun)) = begun-line front (behind ++ more) (no_end front (choice-part step choice).within) in
    let line = front ++ h in
    let split : slice_split is_line_end (bytes ++ more) ≡ line ∷ lines = ap (slice_split is_line_end) all ∙ begun in
    let names : choice_in line ≡ Some choice = line_names step choice h small there in
    let no_state : is_state_line line ≡ false = line-no_state step choice h in
    let (rest, (is, end)) = first_part (bytes ++ more) line lines split in
    let differs : bytes_eq (line ++ (10 ∷ [])) (lines_of world (choice ∷ [])) ≡ false = false_from_ne_true _ (λ alike.
    let whole : line ++ (10 ∷ []) ≡ text = (bytes_eq-Decides (line ++ (10 ∷ [])) (lines_of world (choice ∷ []))).0 alike ∙ text_is in
    let count : length line + 1 ≡ length text = sym (length-append line (10 ∷ [])) ∙ ap length whole in
    other (ap (λ k. take k bytes) (sym count) ∙ first_of bytes more line rest is end (omega (arith, count, size)) ∙ whole)) in
    let made : (now : Comparison) → now.is_state ≡ false → (now.accepted && bytes_eq (line ++ (10 ∷ [])) (lines_of (world_of now.machine) (choice ∷ []))) ≡ false
    → lines_left now (line ∷ lines) ≡ otherwise now.number line = λ now state not.
    left-lines now (line ∷ lines) state ∙ lines-choice now.accepted (world_of now.machine) now.number line lines no_state
    ∙ choice-other (choice_in line) choice now.accepted (world_of now.machine) now.number line _ names not in
    ap (reported_left before) split
    ∙ told-alike before after line lines before.number refl same
    (made before reading.0 (ap (λ a. a && bytes_eq (line ++ (10 ∷ [])) (lines_of world (choice ∷ []))) reading.1 ∙ differs))
    (made after still (ap (λ a. a && bytes_eq (line ++ (10 ∷ [])) (lines_of (world_of after.machine) (choice ∷ []))) none)
    ∙ ap (λ n. otherwise n line) same)
    (ap (line_at 0) (text-choice before choice line lines reading.0 reading.1 no_state names) ∙ first-own world choice (choices_in lines)
    ∙ ap (line_at 0) (text_is ∙ sym kept ∙ sym (text-missed after line lines still none lost no_state)))
    ∙ sym (ap (reported_left after) split)

-- bytes that begin with a number begin with the whole line where they go on as it does
pub begun_whole : (number rest bytes : List ℕ) → take (length number) bytes ≡ number
    → take (length (number ++ rest)) bytes ≡ number ++ take (length rest) (drop (length number) bytes)
begun_whole number rest bytes begun = grind (arith, length-append, take-add)

-- a choice was played for the bytes, and its line was met or not
pub own-by : (before played after : Comparison) (choice : Choice) (number bytes : List ℕ) (count : ℕ) → IsReading before
    → (world_of before.machine).choices ≤ 1000000000000 → played.next ≡ (world_of before.machine).choices + 1
    → number ≡ decimal played.next → 120 ≤ length bytes → NamesBehind bytes number choice
    → Plays (world_of before.machine) (world_of played.machine) (choice ∷ []) true
    (Some []) (Some (decimal ((world_of before.machine).choices + 1) ++ played.expected))
    → IsReading played → played.number ≡ before.number → played.text ≡ before.text → played.at ≡ before.at
    → (count ≢ 0 → (take (length (line_played played)) bytes ≡ line_played played) × (count ≡ length (line_played played))
    × (after ≡ record played { number = played.number + 1 }))
    → (count ≡ 0 → (take (length (line_played played)) bytes ≢ line_played played)
    × (after ≡ record played { accepted = false; missed = true; expected = line_played played }))
    → length (line_played played) ≤ 120 → GoesOver before after bytes count
own-by before played after choice number bytes zero reading few next number_is room names p going same text_is at_is was wasnt size = grind (arith, missed)
own-by before played after choice number bytes (suc n) reading few next number_is room names p going same text_is at_is was wasnt size = grind (arith, met)
