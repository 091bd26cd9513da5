-- The verdict on lines that are the run's.
use Rattle.std.proofs.Common.{◌≡◌, ◌∙◌, ◌+◌, ◌<◌, ◌≤◌, ◌&&◌, ◌⊎◌, ℕ, Bool, true, false, List, [], ◌∷◌, ◌++◌, length, drop, Option, Some, None, ◌==◌, zero, suc, refl, ap, sym, arith, cond, take, min, length-append, take-append-drop, subst, Result, Ok, Err, IfOk, lt-ltb, length-take, take_all, drop-drop}
use Rattle.std.proofs.{Math.Seq.drop-append_seam, Math.Seq.take-append_seam, lemmas.List.drop_all}
use Rattle.std.proofs.lemmas.{Bool.and_from, Bool.and_parts, Bool.cases_lt, Bool.false_from_ne_true, Slice.Eq.bytes_eq-Decides}
use Rattle.std.proofs.lemmas.List.Splits.{slice_split_none, length-slice_split}
use Rattle.trace_compare.specs.declared.comparison.{Comparison.Comparison, Verdict.Verdict}
use Rattle.trace_compare.specs.Comparing.{HasCounted, HasJudged, HasLeft, IsOpen, MeetsText, StandsFrom, bytes_left, decided, lines_left, text_left, reported_by, reported_left}
use Rattle.trace_compare.specs.Compare.{HasCompared, HasShown, HasReported, IsReadNoFurther, Reported, choice_verdict, line_by, lines_verdict, otherwise, state_verdict, reported_of}
use Rattle.std.specs.{List.position_or_len, List.slice_split, Str.bytes_eq, Io.KnownBytes.Consumes}
use Rattle.byte_ports.specs.SourceLines.{IsOneLine}
use Rattle.byte_ports.specs.declared.source_lines.LineEnded.TheVariants as how
use Rattle.row_code.specs.declared.image.Image.{Image}
use Rattle.trace_text.specs.{Start.Begins, State.state_text, Trace.Plays, Trace.lines_of}
use Rattle.trace_text.specs.Reading.{HasNoLongLine, first_line, after_line, is_state_line, choice_in}
use Rattle.line_reader.specs.Words.{is_line_end}
use Rattle.thread_machine.specs.{declared.choice.Choice.Choice, World.StoredWorld, World.World, World.world_of}
use Rattle.trace_compare.specs.declared.comparison.Verdict.TheVariants as verdict
use Rattle.trace_compare.proofs.NamedLines.{begun-line, whole-line}
use Rattle.trace_compare.proofs.RunLines.{none_by, one-line, told-met, told-other}
use Rattle.trace_text.proofs.{StateLines.parts_text, StateLines.state-line, WholeLines.first-is}

same_bytes : (xs ys : List ℕ) → xs ≡ ys → bytes_eq xs ys ≡ true
same_bytes xs ys same = (bytes_eq-Decides xs ys).1 same

-- a text begins with a line, and an LF stands behind it
as_well : (a b : Bool) → (a ≡ true → b ≡ true) → (b ≡ true → a ≡ true) → a ≡ b
as_well true b to from = sym (to refl)
as_well false b to from = grind arith

pub line-eq : (line text : List ℕ)
    → (bytes_eq line (take (length line) text) && bytes_eq (drop (length line) text) (10 ∷ [])) ≡ bytes_eq (line ++ (10 ∷ [])) text
line-eq line text =
    let n = length line in
    as_well _ _
    (λ both. let (front, end) = and_parts (bytes_eq line (take n text)) (bytes_eq (drop n text) (10 ∷ [])) both in
    same_bytes (line ++ (10 ∷ [])) text
    (ap (λ l. l ++ (10 ∷ [])) ((bytes_eq-Decides line (take n text)).0 front)
    ∙ ap (λ e. take n text ++ e) (sym ((bytes_eq-Decides (drop n text) (10 ∷ [])).0 end)) ∙ take-append-drop n text))
    (λ same. let is : text ≡ line ++ (10 ∷ []) = sym ((bytes_eq-Decides (line ++ (10 ∷ [])) text).0 same) in
    and_from _ _ (same_bytes line (take n text) (sym (ap (take n) is ∙ take-append_seam line (10 ∷ []))))
    (same_bytes (drop n text) (10 ∷ []) (ap (drop n) is ∙ drop-append_seam line (10 ∷ []))))

-- a line that isn't the run's, and is too long
long-otherwise : (n : ℕ) (line : List ℕ) → 65536 < length line → otherwise n line ≡ verdict.NotATrace n
long-otherwise n line many = ap (λ long. cond long (verdict.NotATrace n) (verdict.Differs n)) (lt-ltb 65536 (length line) many)

-- a line of the state text
pub state-same : (text : List ℕ) (n : ℕ) (line : List ℕ) (lines : List (List ℕ)) → 0 < length text
    → line ++ (10 ∷ []) ≡ first_line text
    → state_verdict text n (line ∷ lines) ≡ state_verdict (after_line text) (n + 1) lines
state-same text n line lines some same = grind (arith, same_bytes)

-- the line of a choice
pub choice-same : (named : Option Choice) (choice : Choice) (accepted more : Bool) (world after : World) (n : ℕ)
    (line text : List ℕ) (rest : Bool → World → Verdict) → named ≡ Some choice → accepted ≡ true
    → bytes_eq (line ++ (10 ∷ [])) text ≡ true → Plays world after (choice ∷ []) more (Some []) (Some text)
    → choice_verdict named accepted world n line rest ≡ rest more after
choice-same named choice accepted more world after n line text rest named_is accepted_is same p = grind (arith, none_by)

-- as many bytes as there are
take_up_to : (bytes : List ℕ) (n m : ℕ) → n ≡ min m (length bytes) → take n bytes ≡ take m bytes
take_up_to bytes n m is = grind (arith, cases_lt, take_all)

drop_up_to : (bytes : List ℕ) (n m : ℕ) → n ≡ min m (length bytes) → drop n bytes ≡ drop m bytes
drop_up_to bytes n m is = grind (arith, cases_lt, drop_all)

pub state-further : (text due : List ℕ) (at first end n : ℕ) (line part : List ℕ) (lines : List (List ℕ))
    → due ≡ drop at text → 0 < length due → first ≡ position_or_len is_line_end due
    → end ≡ min (first + 1) (length due) → bytes_eq (line ++ (10 ∷ [])) part ≡ true → part ≡ take end due
    → state_verdict (drop at text) n (line ∷ lines) ≡ state_verdict (drop (at + end) text) (n + 1) lines
state-further text due at first end n line part lines due_is some first_is end_is same taken =
    let size : end ≡ min (position_or_len is_line_end due + 1) (length due) = end_is ∙ ap (λ k. min (k + 1) (length due)) first_is in
    ap (λ d. state_verdict d n (line ∷ lines)) (sym due_is)
    ∙ state-same due n line lines some ((bytes_eq-Decides (line ++ (10 ∷ [])) part).0 same ∙ taken ∙ take_up_to due end _ size)
    ∙ ap (λ d. state_verdict d (n + 1) lines)
    (sym (drop_up_to due end _ size) ∙ ap (drop end) due_is ∙ drop-drop end at text)

-- what was found not to be empty
pub not_empty : (n : ℕ) (empty : Bool) → empty ≡ (n == 0) → empty ≡ false → 0 < n
not_empty zero empty is isnt = let wrong : true ≡ false = sym is ∙ isnt in let bad : ⊥ = cc in absurd bad
not_empty (suc n) empty is isnt = omega arith

-- before the state line
pub left-lines : (now : Comparison) (lines : List (List ℕ)) → now.is_state ≡ false
    → lines_left now lines ≡ lines_verdict now.accepted (world_of now.machine) now.number lines
left-lines now lines is = grind arith

pub lines-choice : (accepted : Bool) (world : World) (n : ℕ) (line : List ℕ) (lines : List (List ℕ)) → is_state_line line ≡ false
    → lines_verdict accepted world n (line ∷ lines)
    ≡ choice_verdict (choice_in line) accepted world n line (λ accepted after. lines_verdict accepted after (n + 1) lines)
lines-choice accepted world n line lines is = grind arith

-- a line that names a choice and isn't the run's
pub choice-other : (named : Option Choice) (choice : Choice) (accepted : Bool) (world : World) (n : ℕ) (line : List ℕ)
    (rest : Bool → World → Verdict) → named ≡ Some choice
    → (accepted && bytes_eq (line ++ (10 ∷ [])) (lines_of world (choice ∷ []))) ≡ false
    → choice_verdict named accepted world n line rest ≡ otherwise n line
choice-other named choice accepted world n line rest named_is other = grind arith

pub line-choice : {E : Type 0} (result : Result (Option Verdict) E) (before after : Comparison) (line : List ℕ) (lines : List (List ℕ))
    → before.is_state ≡ false → after.is_state ≡ before.is_state → is_state_line line ≡ false
    → IfOk result (λ v. choice_verdict (choice_in line) before.accepted (world_of before.machine) before.number line
    (λ accepted world. lines_verdict accepted world (before.number + 1) lines)
    ≡ decided v (lines_verdict after.accepted (world_of after.machine) after.number lines))
    → IfOk result (λ v. lines_left before (line ∷ lines) ≡ decided v (lines_left after lines))
line-choice result before after line lines is same no_state q = grind (arith, left-lines, lines-choice)

-- not all has come
pub more_to_come : (state came : Bool) (due line : ℕ) → came ≡ (state && ((due == 0) && (line == 0))) → came ≡ false
    → state ≡ true → 0 < due + (line + 0)
more_to_come true came zero zero is isnt state_is = let wrong : true ≡ false = sym is ∙ isnt in let bad : ⊥ = cc in absurd bad
more_to_come false came due line is isnt state_is = let bad : ⊥ = cc in absurd bad
more_to_come true came _ _ is isnt state_is = omega arith

-- a line with its LF
pub judged-whole : {E : Type 0} (result : Result (Option Verdict) E) (before after : Comparison) (line : List ℕ) → IsOneLine line
    → ((lines : List (List ℕ)) → IsOpen before line lines
    → IfOk result (λ v. lines_left before (line ∷ lines) ≡ decided v (lines_left after lines)))
    → ((lines : List (List ℕ)) → IfOk result (λ v. MeetsText before after line lines v))
    → IfOk result (λ v. HasCounted before.number after.number v) → IfOk result (λ v. HasJudged before after how.Whole line v)
judged-whole (Ok None) before after line one same meets counted = grind (arith, length-slice_split, whole-line, told-met)
judged-whole (Ok (Some v)) before after line one same meets counted = (
  counted,
  λ rest.
      let lines = slice_split is_line_end rest in
      let some : 0 < length lines = omega (arith, length-slice_split is_line_end rest) in
      ap (reported_left before) (whole-line line rest one)
      ∙ told-other before after line lines v (same lines (λ state. omega (arith, some))) (meets lines),
)
judged-whole (Err e) before after line one same meets counted = tt

-- what is left at the end
pub judged-last : (now after : Comparison) (line : List ℕ) (v : Verdict) → IsOneLine line → reported_left now (line ∷ []) ≡ reported_by v after
    → (v ≡ verdict.Same) ⊎ StandsFrom now.number v → HasJudged now after how.AtEnd line (Some v)
judged-last now after line v one is stands = (stands, ap (reported_left now) (slice_split_none is_line_end line one) ∙ is)

-- by whether it is of the state
long_by : (state : Bool) (x y v : Verdict) → x ≡ v → y ≡ v → cond state x y ≡ v
long_by true x y v a b = a
long_by false x y v a b = b

-- what is no line of a trace
pub told-nothing : (now after : Comparison) (lines : List (List ℕ)) (n : ℕ) → lines_left now lines ≡ verdict.NotATrace n
    → reported_left now lines ≡ reported_by (verdict.NotATrace n) after
told-nothing now after lines n is = ap (λ (v : Verdict). record { verdict = v; line = line_by v now.number (text_left now lines) }) is

and_no : (a b : Bool) → b ≡ false → (a && b) ≡ false
and_no true b is = is
and_no false b is = refl

-- a line that is longer than the one that is due
longer : (line text : List ℕ) → length text ≤ length line → bytes_eq (line ++ (10 ∷ [])) text ≡ false
longer line text less = grind (arith, false_from_ne_true, length-append, bytes_eq-Decides)

-- a line that is too long isn't the run's: not in the state
long_state : (text : List ℕ) (n : ℕ) (line : List ℕ) (lines : List (List ℕ)) → position_or_len is_line_end text ≤ 65536
    → 65536 < length line → state_verdict text n (line ∷ lines) ≡ verdict.NotATrace n
long_state text n line lines few many = grind (arith, longer, length-take, long-otherwise)

-- nor of a choice
long_choice : (named : Option Choice) (accepted : Bool) (world : World) (n : ℕ) (line : List ℕ) (rest : Bool → World → Verdict)
    → 65536 < length line → choice_verdict named accepted world n line rest ≡ verdict.NotATrace n
long_choice None accepted world n line rest many = refl
long_choice (Some choice) accepted world n line rest many =
    let own = one-line world choice in
    let few = own.part.few in
    let less : length (lines_of world (choice ∷ [])) ≤ length line =
    omega (arith, many, few, ap length own.is, length-append own.line (10 ∷ [])) in
    choice-other (Some choice) choice accepted world n line rest refl (and_no accepted _ (longer line _ less)) ∙ long-otherwise n line many

long_line : (accepted : Bool) (world : World) (n : ℕ) (line : List ℕ) (lines : List (List ℕ)) → 65536 < length line
    → lines_verdict accepted world n (line ∷ lines) ≡ verdict.NotATrace n
long_line accepted world n line lines many =
    let first = state-line world in
    let size = first.part.few in
    let end : position_or_len is_line_end (state_text world) ≡ length first.line =
    ap (position_or_len is_line_end) first.is ∙ first-is first.line (parts_text world) first.part.within in
    long_by (is_state_line line) _ _ (verdict.NotATrace n)
    (long_state (state_text world) n line lines (omega (arith, end, size)) many)
    (long_choice (choice_in line) accepted world n line (λ accepted after. lines_verdict accepted after (n + 1) lines) many)

pub too_long : (now after : Comparison) (line : List ℕ) → IsOneLine line → HasNoLongLine now.text.items → 65536 < length line
    → HasJudged now after how.TooLong line (Some (verdict.NotATrace now.number))
too_long now after line one short many = (
  omega arith,
  λ rest.
      let (h, (t, is)) = begun-line line rest one in
      let longer : 65536 < length (line ++ h) = omega (arith, length-append line h, many) in
      ap (reported_left now) is
      ∙ told-nothing now after ((line ++ h) ∷ t) now.number
      (long_by now.is_state _ _ (verdict.NotATrace now.number)
      (long_state (drop now.at now.text.items) now.number (line ++ h) t (short now.at) longer)
      (long_line now.accepted (world_of now.machine) now.number (line ++ h) t longer)),
)

-- a comparison that begins, by its parts
left-first : (now : Comparison) (machine : StoredWorld) (bytes : List ℕ) → now.machine ≡ machine → now.accepted ≡ true
    → now.is_state ≡ false → now.number ≡ 1 → bytes_left now bytes ≡ reported_of (world_of machine) bytes
left-first now machine bytes machine_is accepted_is state_is number_is = grind arith

told-first : (now : Comparison) (machine : StoredWorld) (bytes : List ℕ) (left : Option (List ℕ)) (told : Reported)
    → ((rest : List ℕ) → bytes_left now rest ≡ reported_of (world_of machine) rest)
    → HasLeft now bytes left told → HasReported (world_of machine) bytes left told
told-first now machine bytes left told same given = grind arith

-- of an image whose program begins in that world
pub told-all : (image : Image) (now last : Comparison) (machine : StoredWorld) (v : Verdict) (before after : Option (List ℕ))
    → Begins image (world_of machine) → now.machine ≡ machine
    → (now.accepted ≡ true) × (now.is_state ≡ false) → now.number ≡ 1
    → (bytes : List ℕ) × (Consumes before after bytes × HasLeft now bytes after (reported_by v last))
    → HasShown image before after (reported_by v last)
told-all image now last machine v before after begins machine_is start number_is (bytes, (consumed, left)) =
    let same = λ (rest : List ℕ). left-first now machine rest machine_is start.0 start.1 number_is in
    (world_of machine, (bytes, (begins, consumed, told-first now machine bytes after (reported_by v last) same left)))

-- its verdict is the one that was found
verdict-by : (v : Verdict) (last : Comparison) → (reported_by v last).verdict ≡ v
verdict-by verdict.Same last = refl
verdict-by (verdict.Differs n) last = refl
verdict-by (verdict.NotATrace n) last = refl

pub judged-so : (image : Image) (v : Verdict) (last : Comparison) (before after : Option (List ℕ))
    → HasShown image before after (reported_by v last) → IsReadNoFurther before after v
    → HasShown image before after (reported_by v last) × IsReadNoFurther before after (reported_by v last).verdict
judged-so image v last before after shown far = (shown, subst (IsReadNoFurther before after) (sym (verdict-by v last)) far)

-- the verdict alone
pub compared : (image : Image) (told : Reported) (v : Verdict) (before after : Option (List ℕ)) → v ≡ told.verdict
    → HasShown image before after told × IsReadNoFurther before after told.verdict
    → HasCompared image before after v × IsReadNoFurther before after v
compared image told v before after is given = grind arith
