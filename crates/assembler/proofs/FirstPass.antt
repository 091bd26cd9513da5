-- The first pass, one line more.
use Rattle.std.proofs.Common.{◌≡◌, ◌≢◌, ◌⊎◌, ◌∙◌, inl, inr, ℕ, zero, suc, ◌+◌, ◌-◌, ◌<◌, ◌≤◌, ◌==◌, true, false, List, [], ◌∷◌, length, take, drop, Result, Ok, Err, IfErr, Some, refl, sym, ap, arith, slice_get, length-take, length-drop, drop-drop, take-take}
use Rattle.std.proofs.lemmas.{Bool.Decides.nat_tests, List.drop-take}
use Rattle.line_reader.specs.declared.asm_fault.{AsmFault.AsmFault, AsmFaultKind.AsmFaultKind, WordFault.WordFault}
use Rattle.line_reader.specs.{declared.statement.Line.Line, Symbols.Name, Words.lines_of, Words.words_of}
use Rattle.assembler.specs.{Answers.IsWrong, declared.placed.PlacedFault.PlacedFault, Reading.line_behind}
use Rattle.assembler.specs.Placed.{IsMemory, IsPlacedIn, IsUnknownPlaced, place_by, place_in}
use Rattle.assembler.specs.Passes.{behind, lines_read}
use Rattle.row_code.specs.Answers.{◌>>=◌}
use Rattle.assembler.proofs.ReadLines.{lines_read-middle}

-- a text more is there
pub one_left : (texts : List (List ℕ)) (k : ℕ) (line : List ℕ) (more : List (List ℕ)) →
    drop k texts ≡ line ∷ more → k < length texts
one_left texts k line more left =
    let long = ap length left in
    grind (arith, length-drop)

-- all were
pub none_left : (texts : List (List ℕ)) (k : ℕ) → k ≤ length texts → drop k texts ≡ [] → k ≡ length texts
none_left texts k within none =
    let long = ap length none in
    grind (arith, length-drop)

-- the line behind those that were read, and then the others
pub next_line : (texts : List (List ℕ)) (k : ℕ) (middle : List (Line Name)) (line : List ℕ) (more : List (List ℕ)) →
    lines_read 1 [] (take k texts) ≡ Ok middle → drop k texts ≡ line ∷ more →
    lines_read 1 [] texts
    ≡ (behind middle (k + 1) (line_behind middle line) >>= (λ lines. lines_read (k + 1 + 1) lines more))
unfolding lines_read
next_line texts k middle line more met left =
    let within = one_left texts k line more left in
    let taken = length-take k texts in
    let number : 1 + length (take k texts) ≡ k + 1 = omega (arith, within, taken) in
    lines_read-middle 1 k [] middle texts met
    ∙ ap (λ (n : ℕ). lines_read n middle (drop k texts)) number
    ∙ ap (λ (ts : List (List ℕ)). lines_read (k + 1) middle ts) left

alone : (r : Result (List (Line Name)) AsmFault) (after : List (Line Name)) (n : ℕ) → r ≡ Ok after →
    (r >>= (λ lines. lines_read n lines [])) ≡ Ok after
unfolding lines_read
alone r after n is = grind arith

-- the lines up to that one
pub one_more : (texts : List (List ℕ)) (k : ℕ) (middle after : List (Line Name)) (line : List ℕ)
    (more : List (List ℕ)) → lines_read 1 [] (take k texts) ≡ Ok middle → drop k texts ≡ line ∷ more →
    behind middle (k + 1) (line_behind middle line) ≡ Ok after →
    lines_read 1 [] (take (k + 1) texts) ≡ Ok after
one_more texts k middle after line more met left is =
    let front : take k (take (k + 1) texts) ≡ take k texts = take-take k (k + 1) texts (omega arith) in
    let last : drop k (take (k + 1) texts) ≡ line ∷ [] = drop-take k 1 texts ∙ ap (λ (ts : List (List ℕ)). take 1 ts) left in
    next_line (take (k + 1) texts) k middle line [] (ap (λ (ts : List (List ℕ)). lines_read 1 [] ts) front ∙ met) last
    ∙ alone (behind middle (k + 1) (line_behind middle line)) after (k + 1 + 1) is

-- the texts behind that one
pub one_less : (texts : List (List ℕ)) (k : ℕ) (line : List ℕ) (more : List (List ℕ)) →
    drop k texts ≡ line ∷ more → drop (k + 1) texts ≡ more
one_less texts k line more left =
    sym (drop-drop 1 k texts) ∙ ap (λ (ts : List (List ℕ)). drop 1 ts) left

-- no text is left
pub all_read : (texts : List (List ℕ)) (k : ℕ) (middle : List (Line Name)) →
    lines_read 1 [] (take k texts) ≡ Ok middle → drop k texts ≡ [] → lines_read 1 [] texts ≡ Ok middle
unfolding lines_read
all_read texts k middle met none =
    lines_read-middle 1 k [] middle texts met
    ∙ ap (λ (ts : List (List ℕ)). lines_read (1 + length (take k texts)) middle ts) none

-- an empty text has no lines, and another one has bytes
pub no_lines : (text : List ℕ) → true ≡ (length text == 0) → lines_of text ≡ []
no_lines [] h = refl
no_lines (byte ∷ bytes) h = absurd (grind (arith, nat_tests, h))

pub some_text : (text : List ℕ) → false ≡ (length text == 0) → 0 < length text
some_text text h = grind arith

-- ---- the place of a fault

same_by : (kind : AsmFaultKind) (left : ℕ) (line : List ℕ) (m n : ℕ) → (left ≢ 0 → m ≡ n) →
    place_by kind left line m ≡ place_by kind left line n
same_by kind zero line m n same = grind arith
same_by kind (suc left) line m n same = ap (place_by kind (suc left) line) (same (λ none. absurd (cc)))

line_there : (texts : List (List ℕ)) (k : ℕ) (line : List ℕ) (more : List (List ℕ)) → drop k texts ≡ line ∷ more →
    slice_get texts k ≡ Some line
line_there [] zero line more left = absurd (cc)
line_there [] (suc k) line more left = absurd (cc)
line_there (text ∷ texts) zero line more left = cc
line_there (text ∷ texts) (suc k) line more left = line_there texts k line more left

line_again : (texts : List (List ℕ)) (k : ℕ) (line : List ℕ) (more : List (List ℕ)) → drop k texts ≡ line ∷ more →
    slice_get texts (k + 1 - 1) ≡ Some line
line_again texts k line more left =
    let same : k + 1 - 1 ≡ k = omega arith in
    ap (λ (n : ℕ). slice_get texts n) same ∙ line_there texts k line more left

-- a fault of the line behind those that were read is at its word
pub placed_word : (text : List ℕ) (k words : ℕ) (before : List (Line Name)) (line : List ℕ) (more : List (List ℕ))
    (wrong : WordFault) (e : PlacedFault) → lines_read 1 [] (take k (lines_of text)) ≡ Ok before →
    drop k (lines_of text) ≡ line ∷ more → IsWrong wrong (line_behind before line) →
    (wrong.left ≢ 0 → words ≡ length (words_of line)) → e.fault ≡ record { line = k + 1; kind = wrong.kind } →
    ((l : List ℕ) → slice_get (lines_of text) (k + 1 - 1) ≡ Some l → e.at ≡ place_in l words wrong) →
    IsPlacedIn text e
placed_word text k words before line more wrong e met left (inl memory) counted is there =
    inl (
      ap (λ (f : AsmFault). f.kind) is ∙ ap (λ (w : WordFault). w.kind) memory,
      there line (line_again (lines_of text) k line more left) ∙ ap (λ (w : WordFault). place_in line words w) memory,
    )
placed_word text k words before line more wrong e met left (inr read) counted is there =
    let same : k ≡ k + 1 - 1 = omega arith in
    let number : k ≡ e.fault.line - 1 = same ∙ sym (ap (λ (f : AsmFault). f.line - 1) is) in
    inr (inl (
      before,
      line,
      wrong,
      ap (λ (n : ℕ). lines_read 1 [] (take n (lines_of text))) (sym number) ∙ met,
      ap (λ (n : ℕ). slice_get (lines_of text) n) (sym number) ∙ line_there (lines_of text) k line more left,
      read,
      there line (line_again (lines_of text) k line more left) ∙ same_by wrong.kind wrong.left line words (length (words_of line)) counted,
    ))

-- so is a name that nothing has, where all lines were read
pub placed_name : {A : Type 0} (text : List ℕ) (lines : List (Line Name)) (r : Result A PlacedFault) →
    lines_read 1 [] (lines_of text) ≡ Ok lines → IfErr r (λ e. IsMemory e ⊎ IsUnknownPlaced lines text e) →
    IfErr r (IsPlacedIn text)
placed_name text lines (Ok x) read is = tt
placed_name text lines (Err e) read (inl memory) = inl memory
placed_name text lines (Err e) read (inr is) = inr (inr (lines, read, is))
