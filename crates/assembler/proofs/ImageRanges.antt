-- What lines say is within the ranges of an image.
use Rattle.std.proofs.Common.{◌≡◌, inl, inr, ℕ, ◌+◌, List, [], ◌∷◌, ◌++◌, length, refl, sym, subst, arith, length-append}
use Rattle.std.proofs.lemmas.List.Elements.{All-from_recursion}
use Rattle.std.specs.List.{flat_map, AllByRecursion}
use Rattle.instruction_table.specs.declared.shape.OperandKind.{OperandKind}
use Rattle.instruction_table.specs.declared.shape.OperandKind.TheVariants as kind
use Rattle.row_code.specs.{RowFields.IsRow, Phasers.IsPhaser, Barriers.IsBarrier, Threads.IsThread, Image.IsImage}
use Rattle.line_reader.specs.{declared.statement.Statement.Statement, declared.statement.Line.Line, Words.words_of}
use Rattle.line_reader.specs.Symbols.{Name}
use Rattle.assembler.specs.Statements.{adds, count, EachFollows}
use Rattle.assembler.specs.Meaning.{SayInOrder, barriers_in, image_of, phasers_in, rows_in, threads_in}
use Rattle.assembler.proofs.{Counts.AreFew, Counts.few_of_each, StatementRanges.Fits, StatementRanges.spelled_fits}

each_said : (all : List (Line Name)) → AreFew all → (n : ℕ) (texts : List (List ℕ)) (lines : List (Line Name)) → SayInOrder n texts lines →
    AllByRecursion (λ line. Fits all line.statement) lines
each_said all few n [] lines none = subst (AllByRecursion (λ line. Fits all line.statement)) (sym none) tt
each_said all few n (text ∷ texts) lines (inl h) = each_said all few (n + 1) texts lines h.1
each_said all few n (text ∷ texts) lines (inr (said, others, are, says, rest)) =
    subst (AllByRecursion (λ line. Fits all line.statement)) (sym are)
    (spelled_fits all few (words_of text) said says.1, each_said all few (n + 1) texts others rest)

both : {A : Type 0} (P : A → Type 0) (xs ys : List A) → AllByRecursion P xs → AllByRecursion P ys → AllByRecursion P (xs ++ ys)
both P [] ys h g = g
both P (x ∷ xs) ys h g = (h.0, both P xs ys h.1 g)

-- what holds of all that each line adds holds of all that is added
joined : {A : Type 0} (P : A → Type 0) (Q : Line Name → Type 0) (added : Line Name → List A) →
    ((line : Line Name) → Q line → AllByRecursion P (added line)) → (lines : List (Line Name)) → AllByRecursion Q lines →
    AllByRecursion P (flat_map added lines)
joined P Q added one [] h = tt
joined P Q added one (line ∷ lines) h = both P (added line) (flat_map added lines) (one line h.0) (joined P Q added one lines h.1)

-- as many as were counted
counted : {A : Type 0} (k : OperandKind) (added : Statement Name → List A) →
    ((s : Statement Name) → length (added s) ≡ adds k s) → (lines : List (Line Name)) →
    length (flat_map (λ line. added line.statement) lines) ≡ count k lines
counted k added one [] = refl
counted k added one (line ∷ lines) = grind (arith, length-append, counted k added one lines)

phaser_counted : (all : List (Line Name)) (s : Statement Name) → length (phasers_in all s) ≡ adds kind.Phaser s
phaser_counted all s = grind arith

barrier_counted : (all : List (Line Name)) (s : Statement Name) → length (barriers_in all s) ≡ adds kind.Barrier s
barrier_counted all s = grind arith

thread_counted : (all : List (Line Name)) (s : Statement Name) → length (threads_in all s) ≡ adds kind.Thread s
thread_counted all s = grind arith

row_counted : (all : List (Line Name)) (s : Statement Name) → length (rows_in all s) ≡ adds kind.Target s
row_counted all s = grind arith

-- what lines say is an image
pub said_image : (n : ℕ) (texts : List (List ℕ)) (lines : List (Line Name)) → SayInOrder n texts lines → EachFollows [] lines → IsImage (image_of lines)
said_image n texts lines said follow =
    let few = few_of_each lines follow in
    let fit = each_said lines few n texts lines said in
    let Q : Line Name → Type 0 = λ line. Fits lines line.statement in
    let i = image_of lines in
    record {
      phasers = (
        omega (arith, counted kind.Phaser (phasers_in lines) (phaser_counted lines) lines, few kind.Phaser),
        All-from_recursion IsPhaser i.phasers (joined IsPhaser Q (λ line. phasers_in lines line.statement) (λ line h. h.phasers) lines fit),
      );
      barriers = (
        omega (arith, counted kind.Barrier (barriers_in lines) (barrier_counted lines) lines, few kind.Barrier),
        All-from_recursion IsBarrier i.barriers (joined IsBarrier Q (λ line. barriers_in lines line.statement) (λ line h. h.barriers) lines fit),
      );
      threads = (
        omega (arith, counted kind.Thread (threads_in lines) (thread_counted lines) lines, few kind.Thread),
        All-from_recursion IsThread i.threads (joined IsThread Q (λ line. threads_in lines line.statement) (λ line h. h.threads) lines fit),
      );
      rows = (
        omega (arith, counted kind.Target (rows_in lines) (row_counted lines) lines, few kind.Target),
        All-from_recursion IsRow i.rows (joined IsRow Q (λ line. rows_in lines line.statement) (λ line h. h.rows) lines fit),
      );
    }
