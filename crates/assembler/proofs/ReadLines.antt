-- Lines read one after the other, and a text with its image: what is read is said, and what is said is read.
use Rattle.std.proofs.Common.{◌≡◌, inl, inr, ℕ, suc, ◌+◌, Bool, true, not, List, [], ◌∷◌, ◌++◌, length, take, drop, find, Option, Some, None, Result, Ok, Err, IfOk, refl, sym, ap, subst, ◌∙◌, append_assoc, arith, append-nil, take-append-drop}
use Rattle.std.specs.List.{list_all}
use Rattle.row_code.specs.{declared.image.Image.Image, Answers.◌>>=◌}
use Rattle.line_reader.specs.declared.asm_fault.{AsmFault.AsmFault, AsmFaultKind.AsmFaultKind, WordFault.WordFault}
use Rattle.line_reader.specs.{declared.statement.Line.Line, declared.statement.Statement.Statement, Words.lines_of}
use Rattle.line_reader.specs.Symbols.{Name}
use Rattle.assembler.specs.{Statements.EachFollows, Meaning.are_known, Meaning.SayInOrder, Meaning.StandsFor}
use Rattle.assembler.specs.{Reading.line_behind, Answers.AnswersAt, Answers.FailsAt, Answers.unplaced}
use Rattle.assembler.specs.declared.placed.PlacedFault.{PlacedFault}
use Rattle.assembler.specs.Passes.{behind, lines_read, first_unknown, looked_up, assembled}
use Rattle.line_reader.proofs.Steps.{by_test, both_true}
use Rattle.assembler.proofs.SpelledLines.{LineSays, line_takes, line_again}

abbrev done : {A : Type 0} → A → Result A AsmFault
done x = Ok x

ok_is : {A : Type 0} (x y : A) → done x ≡ done y → x ≡ y
ok_is x y e = cc

-- the lines that were read, for what follows from them
bound : {A B C : Type 0} (r : Result A AsmFault) (f : A → Result B AsmFault) (y : B) → (r >>= f) ≡ Ok y →
    ((x : A) → r ≡ Ok x → f x ≡ Ok y → C) → C
bound r f y e then = grind arith

-- a line that did not fail says nothing, or adds what it says
stepped : {B C : Type 0} (before : List (Line Name)) (n : ℕ) (r : Result (Option (Statement Name)) WordFault)
    (f : List (Line Name) → Result B AsmFault) (y : B) → (behind before n r >>= f) ≡ Ok y →
    (r ≡ Ok None → f before ≡ Ok y → C) →
    ((said : Statement Name) → r ≡ Ok (Some said) → f (before ++ (record { number = n; statement = said } ∷ [])) ≡ Ok y → C) → C
stepped before n r f y e nothing something = grind arith

-- the lines from this number on say this, behind the lines before it
abbrev pub Behind : ℕ → List (Line Name) → List (List ℕ) → List (Line Name) → Type 0
Behind n before texts lines =
    (more : List (Line Name)) × (lines ≡ before ++ more) × SayInOrder n texts more × EachFollows before more

pub lines_take : (n : ℕ) (before : List (Line Name)) (texts : List (List ℕ)) (lines : List (Line Name)) →
    lines_read n before texts ≡ Ok lines → Behind n before texts lines
unfolding lines_read
lines_take n before [] lines e = ([], sym (ok_is before lines e) ∙ sym (append-nil before), refl, tt)
lines_take n before (text ∷ texts) lines e =
    stepped before n (line_behind before text) (λ ls. lines_read (n + 1) ls texts) lines e
    (λ is e.
    let others = lines_take (n + 1) before texts lines e in
    (others.0, others.1, inl (line_takes before text None is, others.2), others.3))
    (λ said is e.
    let line : Line Name = record { number = n; statement = said } in
    let others = lines_take (n + 1) (before ++ (line ∷ [])) texts lines e in
    let says : LineSays before text (Some said) = line_takes before text (Some said) is in (
      line ∷ others.0,
      others.1 ∙ append_assoc before (line ∷ []) others.0,
      inr (said, others.0, refl, says.0, others.2),
      (says.1, others.3),
    ))

lines_again : (n : ℕ) (before : List (Line Name)) (texts : List (List ℕ)) (more : List (Line Name)) →
    SayInOrder n texts more → EachFollows before more → lines_read n before texts ≡ Ok (before ++ more)
unfolding lines_read
lines_again n before [] more s f = rw (s, append-nil before) refl
lines_again n before (text ∷ texts) more (inl s) f =
    rw (line_again before text None s.0) (lines_again (n + 1) before texts more s.1 f)
lines_again n before (text ∷ texts) more (inr s) f =
    let line : Line Name = record { number = n; statement = s.0 } in
    let follows : EachFollows before (line ∷ s.1) = subst (λ (ls : List (Line Name)). EachFollows before ls) s.2 f in
    let others = lines_again (n + 1) (before ++ (line ∷ [])) texts s.1 s.4 follows.1 in
    let grouped : (before ++ (line ∷ [])) ++ s.1 ≡ before ++ more = append_assoc before (line ∷ []) s.1 ∙ ap (λ (ls : List (Line Name)). before ++ ls) (sym s.2) in
    rw (line_again before text (Some s.0) (s.3, follows.0)) (others ∙ ap (λ (ls : List (Line Name)). done ls) grouped)

-- ---- names that are known

none_fails : {A : Type 0} (test : A → Bool) (xs : List A) → find (λ x. not (test x)) xs ≡ None → list_all test xs ≡ true
none_fails test [] e = refl
none_fails test (x ∷ xs) e =
    by_test (test x)
    (λ is. rw is (none_fails test xs (rw is at e)))
    (λ is-not. absurd (cc (rw is-not at e)))

all_pass : {A : Type 0} (test : A → Bool) (xs : List A) → list_all test xs ≡ true → find (λ x. not (test x)) xs ≡ None
all_pass test [] e = refl
all_pass test (x ∷ xs) e =
    let each = both_true (test x) (list_all test xs) e in
    rw each.0 (all_pass test xs each.1)

-- ---- a text and its image

-- an image that a text is read as is what the text stands for
pub assembled-stands_for : (text : List ℕ) (i : Image) → assembled text ≡ Ok i → StandsFor text i
unfolding assembled
assembled-stands_for text i e = grind (arith, bound, lines_take, none_fails)

-- the image that a text stands for is what it is read as
pub stands_for-assembled : (text : List ℕ) (i : Image) → StandsFor text i → assembled text ≡ Ok i
unfolding assembled
stands_for-assembled text i s =
    let known = all_pass (λ (line : Line Name). are_known s.0 line.statement) s.0 s.3 in
    rw (lines_again 1 [] (lines_of text) s.0 s.1 s.2, known) (ap (λ (j : Image). done j) (sym s.4))

-- no text stands for two images
pub one_image : (text : List ℕ) (i j : Image) → StandsFor text i → StandsFor text j → i ≡ j
one_image text i j s t = ok_is i j (sym (stands_for-assembled text i s) ∙ stands_for-assembled text j t)

-- ---- lines in two parts

then_split : {A : Type 0} (r : Result A AsmFault) (f g : A → Result A AsmFault) (h : A → Result A AsmFault) →
    ((x : A) → f x ≡ (g x >>= h)) → (r >>= f) ≡ ((r >>= g) >>= h)
then_split r f g h same = grind arith

-- lines in front and then others
pub lines_read-append : (n : ℕ) (before : List (Line Name)) (xs ys : List (List ℕ)) →
    lines_read n before (xs ++ ys) ≡ (lines_read n before xs >>= (λ lines. lines_read (n + length xs) lines ys))
unfolding lines_read
lines_read-append n before [] ys = grind arith
lines_read-append n before (x ∷ xs) ys =
    let more : n + 1 + length xs ≡ n + suc (length xs) = omega arith in
    then_split (behind before n (line_behind before x)) (λ ls. lines_read (n + 1) ls (xs ++ ys)) (λ ls. lines_read (n + 1) ls xs)
    (λ ls. lines_read (n + suc (length xs)) ls ys)
    (λ ls.
    lines_read-append (n + 1) ls xs ys
    ∙ ap (λ (m : ℕ). lines_read (n + 1) ls xs >>= (λ lines. lines_read m lines ys)) more)

pub lines_read-split : (n k : ℕ) (before : List (Line Name)) (texts : List (List ℕ)) →
    lines_read n before texts
    ≡ (lines_read n before (take k texts) >>= (λ lines. lines_read (n + length (take k texts)) lines (drop k texts)))
lines_read-split n k before texts =
    ap (λ (ts : List (List ℕ)). lines_read n before ts) (sym (take-append-drop k texts))
    ∙ lines_read-append n before (take k texts) (drop k texts)

-- where the first lines were read, what is read of all is what is read of the others behind them
pub lines_read-middle : (n k : ℕ) (before middle : List (Line Name)) (texts : List (List ℕ)) →
    lines_read n before (take k texts) ≡ Ok middle →
    lines_read n before texts ≡ lines_read (n + length (take k texts)) middle (drop k texts)
lines_read-middle n k before middle texts e =
    lines_read-split n k before texts
    ∙ ap (λ (r : Result (List (Line Name)) AsmFault). r >>= (λ lines. lines_read (n + length (take k texts)) lines (drop k texts))) e

-- ---- what is answered, memory aside

pub answers_stand : (text : List ℕ) (answered : Result Image AsmFault) →
    AnswersAt (λ i. i) answered (assembled text) → IfOk answered (λ i. StandsFor text i)
answers_stand text answered is = grind (arith, assembled-stands_for)

pub stands_answered : (text : List ℕ) (answered : Result Image AsmFault) →
    AnswersAt (λ i. i) answered (assembled text) → (i : Image) → StandsFor text i →
    AnswersAt (λ j. j) answered (Ok i)
stands_answered text answered is i stands =
    subst (λ (read : Result Image AsmFault). AnswersAt (λ (j : Image). j) answered read) (stands_for-assembled text i stands) is

-- where all lines were read, what is answered is what their names give
read_all : (text : List ℕ) (lines : List (Line Name)) → lines_read 1 [] (lines_of text) ≡ Ok lines →
    assembled text ≡ looked_up lines (first_unknown lines)
unfolding assembled
read_all text lines e = ap (λ (r : Result (List (Line Name)) AsmFault). r >>= (λ ls. looked_up ls (first_unknown ls))) e

pub looked_up_answered : (text : List ℕ) (lines : List (Line Name)) (answered : Result Image AsmFault) →
    lines_read 1 [] (lines_of text) ≡ Ok lines → AnswersAt (λ i. i) answered (looked_up lines (first_unknown lines)) →
    AnswersAt (λ i. i) answered (assembled text)
looked_up_answered text lines answered e is = grind (arith, read_all)

-- what fails goes on failing
pub fails_then : {A B : Type 0} (kind : AsmFaultKind) (e : AsmFault) (r : Result A AsmFault)
    (f : A → Result B AsmFault) → FailsAt kind e r → FailsAt kind e (r >>= f)
fails_then kind e r f fails = grind arith

pub fault_answered : (text : List ℕ) (e : AsmFault) → FailsAt e.kind e (lines_read 1 [] (lines_of text)) →
    FailsAt e.kind e (assembled text)
unfolding assembled
fault_answered text e fails = grind arith

-- ---- what is said of a result without the place of its fault

pub unplaced_ok : {A : Type 0} (P : A → Type 0) (r : Result A PlacedFault) → IfOk (unplaced r) P → IfOk r P
unplaced_ok P (Ok x) p = p
unplaced_ok P (Err e) p = tt
