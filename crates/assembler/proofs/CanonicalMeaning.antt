-- The canonical text of an image stands for it.
use Rattle.std.proofs.Common.{◌≡◌, ℕ, true, List, [], ◌∷◌, ◌++◌, Option, option_map, refl, ap, ◌∙◌, arith, append-nil, rules}
use Rattle.std.proofs.lemmas.{Bool.and_from, Grind.flat_map-append, List.Elements.recursion_from_All}
use Rattle.std.proofs.lemmas.List.Folds.{list_all-append}
use Rattle.std.specs.List.{flat_map, list_all}
use Rattle.instruction_table.specs.declared.{row.Row.Row, shape.OperandKind.OperandKind}
use Rattle.instruction_table.specs.declared.shape.OperandKind.TheVariants as kind
use Rattle.row_code.specs.{declared.barriers.DeclaredBarrier.DeclaredBarrier, declared.image.Image.Image, Barriers.IsBarrier}
use Rattle.row_code.specs.declared.phasers.{DeclaredPhaser.DeclaredPhaser, DeclaredPolicy.DeclaredPolicy}
use Rattle.row_code.specs.{Image.IsImage, Phasers.IsPhaser, RowFields.IsRow, Threads.IsThread}
use Rattle.line_reader.specs.{declared.statement.Line.Line, declared.statement.Statement.Statement, Words.lines_of}
use Rattle.line_reader.specs.Symbols.{Name}
use Rattle.line_reader.specs.Listing.{numbered, phaser_words, barrier_words, thread_words, row_words, lines_listed, canonical}
use Rattle.assembler.specs.Statements.{adds, EachFollows}
use Rattle.assembler.specs.Meaning.{is_known_or_none, is_policy_known, are_known, phasers_in, barriers_in, threads_in, rows_in, image_of, SayInOrder, StandsFor}
use Rattle.assembler.proofs.CanonicalDirectives.{number_said, policy_said, phaser_said, barrier_said, thread_said, phaser_says, barrier_says, thread_says}
use Rattle.assembler.proofs.CanonicalRows.{row_said, row_known, row_back, row_says}
use Rattle.assembler.proofs.NumberedLines.{map_numbered, lines_from, SayEach, SayEach-append, numbered_says, lines_of-texts, say_in_order, lines_from-flat_map, lines_from-list_all, numbered_all, numbered_none, numbered_back}
use Rattle.assembler.proofs.CanonicalOrder.{EachFollows-append, IsDirective, IsFree, free_first, free_behind, directives_follow, rows_follow}

-- what the lines say
abbrev phasers_said : Image → List (Statement Name)
phasers_said i = numbered phaser_said 0 i.phasers

abbrev barriers_said : Image → List (Statement Name)
barriers_said i = numbered barrier_said 0 i.barriers

abbrev threads_said : Image → List (Statement Name)
threads_said i = numbered thread_said 0 i.threads

abbrev row_numbered : ℕ → Row → Statement Name
row_numbered n row = row_said row

abbrev rows_said : Image → List (Statement Name)
rows_said i = numbered row_numbered 0 i.rows

abbrev all_said : Image → List (Statement Name)
all_said i = phasers_said i ++ (barriers_said i ++ (threads_said i ++ rows_said i))

-- ---- the words of the lines

abbrev row_listed : ℕ → Row → List (List ℕ)
row_listed n row = row_words row

abbrev all_lines : Image → List (List (List ℕ))
all_lines i =
    numbered phaser_words 0 i.phasers ++ (numbered barrier_words 0 i.barriers
    ++ (numbered thread_words 0 i.threads ++ numbered row_listed 0 i.rows))

all_listed : (i : Image) → lines_listed i ≡ all_lines i
all_listed i =
    ap (λ rows. numbered phaser_words 0 i.phasers ++ (numbered barrier_words 0 i.barriers ++ (numbered thread_words 0 i.threads ++ rows)))
    (map_numbered row_words 0 i.rows)

-- each line of an image says what it stands for
all_say : (i : Image) → IsImage i → SayEach (all_lines i) (all_said i)
all_say i h =
    let phasers = numbered_says IsPhaser 64 phaser_words phaser_said phaser_says 0 i.phasers (omega (arith, h.phasers.0))
    (recursion_from_All IsPhaser i.phasers h.phasers.1) in
    let barriers = numbered_says IsBarrier 64 barrier_words barrier_said barrier_says 0 i.barriers (omega (arith, h.barriers.0))
    (recursion_from_All IsBarrier i.barriers h.barriers.1) in
    let threads = numbered_says IsThread 64 thread_words thread_said thread_says 0 i.threads (omega (arith, h.threads.0))
    (recursion_from_All IsThread i.threads h.threads.1) in
    let rows = numbered_says IsRow 65535 row_listed row_numbered (λ n row small fits. row_says row fits) 0 i.rows
    (omega (arith, h.rows.0)) (recursion_from_All IsRow i.rows h.rows.1) in
    SayEach-append _ _ _ _ phasers (SayEach-append _ _ _ _ barriers (SayEach-append _ _ _ _ threads rows))

say_all : (i : Image) → IsImage i → SayInOrder 1 (lines_of (canonical i)) (lines_from 1 (all_said i))
say_all i h =
    let says = all_say i h in
    grind (arith, all_listed, lines_of-texts, say_in_order)

-- ---- their order

phaser_directive : IsDirective 112 kind.Phaser phaser_said
phaser_directive = record { name = λ n p. refl; adds_one = λ n p. refl; code = λ n p. refl; room = λ before n p. refl }

barrier_directive : IsDirective 98 kind.Barrier barrier_said
barrier_directive = record { name = λ n b. refl; adds_one = λ n b. refl; code = λ n b. refl; room = λ before n b. refl }

thread_directive : IsDirective 116 kind.Thread thread_said
thread_directive = record { name = λ n t. refl; adds_one = λ n t. refl; code = λ n t. refl; room = λ before n t. refl }

-- behind the phasers, nothing of another kind and with another letter is declared
behind_phasers : (i : Image) (letter : ℕ) (k : OperandKind) → (letter ≡ 112 → ⊥) →
    ((n : ℕ) (p : DeclaredPhaser) → adds k (phaser_said n p) ≡ 0) → IsFree letter k 0 (lines_from 1 (phasers_said i))
behind_phasers i letter k differ none =
    free_behind letter 112 k phaser_said differ (λ n p. refl) none (λ n p. refl) 0 i.phasers 0 1 [] (free_first letter k)

-- nor behind the barriers that follow
behind_barriers : (i : Image) (m letter : ℕ) (k : OperandKind) → (letter ≡ 98 → ⊥) →
    ((n : ℕ) (b : DeclaredBarrier) → adds k (barrier_said n b) ≡ 0) → IsFree letter k 0 (lines_from 1 (phasers_said i)) →
    IsFree letter k 0 (lines_from 1 (phasers_said i) ++ lines_from m (barriers_said i))
behind_barriers i m letter k differ none free =
    free_behind letter 98 k barrier_said differ (λ n b. refl) none (λ n b. refl) 0 i.barriers 0 m (lines_from 1 (phasers_said i)) free

-- the threads behind both, and then the rows
threads_follow : (i : Image) → IsImage i → (m n : ℕ) →
    EachFollows (lines_from 1 (phasers_said i) ++ lines_from m (barriers_said i)) (lines_from n (threads_said i ++ rows_said i))
threads_follow i h m n =
    let before = lines_from 1 (phasers_said i) ++ lines_from m (barriers_said i) in
    let no_thread : IsFree 116 kind.Thread 0 before = behind_barriers i m 116 kind.Thread (λ e. omega arith) (λ k b. refl)
    (behind_phasers i 116 kind.Thread (λ e. omega arith) (λ k p. refl)) in
    let no_row : IsFree 0 kind.Target 0 before = behind_barriers i m 0 kind.Target (λ e. omega arith) (λ k b. refl)
    (behind_phasers i 0 kind.Target (λ e. omega arith) (λ k p. refl)) in
    let still : IsFree 0 kind.Target 0 (before ++ lines_from n (threads_said i)) =
    free_behind 0 116 kind.Target thread_said (λ e. omega arith) (λ k t. refl) (λ k t. refl) (λ k t. refl) 0 i.threads 0 n before no_row in
    grind (arith, EachFollows-append, directives_follow, thread_directive, rows_follow)

all_follow : (i : Image) → IsImage i → EachFollows [] (lines_from 1 (all_said i))
all_follow i h =
    let phasers = lines_from 1 (phasers_said i) in
    EachFollows-append [] 1 (phasers_said i) (barriers_said i ++ (threads_said i ++ rows_said i))
    (directives_follow 112 kind.Phaser phaser_said phaser_directive i.phasers 0 1 [] (omega (arith, h.phasers.0))
    (free_first 112 kind.Phaser))
    (λ m. EachFollows-append phasers m (barriers_said i) (threads_said i ++ rows_said i)
    (directives_follow 98 kind.Barrier barrier_said barrier_directive i.barriers 0 m phasers (omega (arith, h.barriers.0))
    (behind_phasers i 98 kind.Barrier (λ e. omega arith) (λ n p. refl)))
    (λ n. threads_follow i h m n))

-- ---- what they refer to

parent_known : (lines : List (Line Name)) (k : OperandKind) (n : Option ℕ) →
    is_known_or_none lines k (option_map number_said n) ≡ true
parent_known lines k n = grind arith

policy_known : (lines : List (Line Name)) (p : DeclaredPolicy) → is_policy_known lines (policy_said p) ≡ true
policy_known lines p = grind arith

all_known : (lines : List (Line Name)) (i : Image) → list_all (are_known lines) (all_said i) ≡ true
all_known lines i = search (rules, numbered_all, phaser_said, and_from, parent_known, policy_known, barrier_said, thread_said, row_known, list_all-append)

-- ---- the image that they make

phaser_back : (lines : List (Line Name)) (n : ℕ) (p : DeclaredPhaser) → phasers_in lines (phaser_said n p) ≡ p ∷ []
phaser_back lines n p = grind arith

barrier_back : (lines : List (Line Name)) (n : ℕ) (b : DeclaredBarrier) →
    barriers_in lines (barrier_said n b) ≡ b ∷ []
barrier_back lines n b = grind arith

-- what the statements make, list by list
in_four : {B : Type 0} (f : Statement Name → List B) (i : Image) (a b c d : List B) →
    flat_map f (phasers_said i) ≡ a → flat_map f (barriers_said i) ≡ b → flat_map f (threads_said i) ≡ c →
    flat_map f (rows_said i) ≡ d →
    flat_map (λ line. f line.statement) (lines_from 1 (all_said i)) ≡ a ++ (b ++ (c ++ d))
in_four f i a b c d ea eb ec ed = grind (arith, lines_from-flat_map, flat_map-append)

image_back : (lines : List (Line Name)) (i : Image) → lines ≡ lines_from 1 (all_said i) → i ≡ image_of lines
image_back lines i is =
    let p : flat_map (λ line. phasers_in lines line.statement) (lines_from 1 (all_said i)) ≡ i.phasers =
    in_four (phasers_in lines) i i.phasers [] [] []
    (numbered_back (phasers_in lines) phaser_said (phaser_back lines) 0 i.phasers)
    (numbered_none (phasers_in lines) barrier_said (λ n b. refl) 0 i.barriers)
    (numbered_none (phasers_in lines) thread_said (λ n t. refl) 0 i.threads)
    (numbered_none (phasers_in lines) row_numbered (λ n row. refl) 0 i.rows) ∙ append-nil i.phasers in
    let b : flat_map (λ line. barriers_in lines line.statement) (lines_from 1 (all_said i)) ≡ i.barriers =
    in_four (barriers_in lines) i [] i.barriers [] []
    (numbered_none (barriers_in lines) phaser_said (λ n p. refl) 0 i.phasers)
    (numbered_back (barriers_in lines) barrier_said (barrier_back lines) 0 i.barriers)
    (numbered_none (barriers_in lines) thread_said (λ n t. refl) 0 i.threads)
    (numbered_none (barriers_in lines) row_numbered (λ n row. refl) 0 i.rows) ∙ append-nil i.barriers in
    let t : flat_map (λ line. threads_in lines line.statement) (lines_from 1 (all_said i)) ≡ i.threads =
    in_four (threads_in lines) i [] [] i.threads []
    (numbered_none (threads_in lines) phaser_said (λ n p. refl) 0 i.phasers)
    (numbered_none (threads_in lines) barrier_said (λ n b. refl) 0 i.barriers)
    (numbered_back (threads_in lines) thread_said (λ n t. refl) 0 i.threads)
    (numbered_none (threads_in lines) row_numbered (λ n row. refl) 0 i.rows) ∙ append-nil i.threads in
    let r : flat_map (λ line. rows_in lines line.statement) (lines_from 1 (all_said i)) ≡ i.rows =
    in_four (rows_in lines) i [] [] [] i.rows
    (numbered_none (rows_in lines) phaser_said (λ n p. refl) 0 i.phasers)
    (numbered_none (rows_in lines) barrier_said (λ n b. refl) 0 i.barriers)
    (numbered_none (rows_in lines) thread_said (λ n t. refl) 0 i.threads)
    (numbered_back (rows_in lines) row_numbered (λ n row. ap (λ x. x ∷ []) (row_back lines row)) 0 i.rows) in
    grind arith

-- ---- together

pub canonical-stands_for : (i : Image) → IsImage i → StandsFor (canonical i) i
canonical-stands_for i h =
    let lines = lines_from 1 (all_said i) in (
      lines,
      say_all i h,
      all_follow i h,
      lines_from-list_all (are_known lines) 1 (all_said i) ∙ all_known lines i,
      image_back lines i refl,
    )
