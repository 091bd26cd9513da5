-- Lines behind others: what is read is said, and what is said is read.
use Rattle.std.proofs.Common.{◌≡◌, ℕ, suc, ◌+◌, ◌-◌, Bool, true, false, not, ◌&&◌, List, [], ◌∷◌, ◌++◌, length, map, take, codes, bytes_eq, find, Option, Some, None, Ok, refl, sym, ap, subst, ◌∙◌, arith, eqb-true, ltb-false, le-ltb, take_at, length-append}
use Rattle.std.proofs.lemmas.List.{length-map}
use Rattle.std.specs.List.{list_all}
use Rattle.instruction_table.specs.Table.{Entry, table, entry_named}
use Rattle.line_reader.specs.declared.asm_fault.AsmFaultKind.TheVariants as fault
use Rattle.line_reader.specs.declared.{symbolic_row.SymbolicRow.SymbolicRow, statement.Line.Line, statement.Statement.Statement}
use Rattle.line_reader.specs.{Seen.Borrowed, Seen.name_seen, Words.words_of, Names.is_name, Symbols.Name}
use Rattle.line_reader.specs.Spelling.{SpellRow, SpellsLabel, Spell, IsLine, Says, SaysNothing}
use Rattle.line_reader.specs.Reading.{fault_at, line_words, name_at, is_directive, directive_at, is_label, before_last}
use Rattle.line_reader.specs.declared.statement.Statement.TheVariants as statement
use Rattle.assembler.specs.Statements.{is_new, has_room, Follows}
use Rattle.assembler.specs.Reading.{directive_behind, row_behind, labelled_behind, statement_behind, words_behind, line_behind}
use Rattle.line_reader.proofs.Steps.{bound, bound_at, ok_is, check_ok, by_test, passed, not_true, both_true, or_right, is_bytes}
use Rattle.line_reader.proofs.SpelledNumbers.{name_takes, name_again}
use Rattle.line_reader.proofs.SpelledOperands.{find_passes, row_takes, row_again}
use Rattle.line_reader.proofs.SpelledDirectives.{phaser_again, barrier_again, thread_again, cell_again, directive_takes}

-- ---- labels

is_label_again : (name : List ℕ) → is_label (name ++ codes ":") ≡ true
is_label_again (byte ∷ next ∷ bytes) = is_label_again (next ∷ bytes)
is_label_again name = grind arith

label_spelled : (word : List ℕ) → is_label word ≡ true → word ≡ before_last word ++ codes ":"
label_spelled (byte ∷ next ∷ bytes) e =
    let one : suc (suc (length bytes)) - 1 ≡ suc (suc (length bytes) - 1) = omega arith in
    ap (λ (w : List ℕ). byte ∷ w) (label_spelled (next ∷ bytes) e)
    ∙ ap (λ (n : ℕ). take n (byte ∷ next ∷ bytes) ++ codes ":") (sym one)
label_spelled word e = grind (arith, eqb-true)

-- ---- the words of rows

-- neither a label nor a directive
abbrev is_plain : List ℕ → Bool
is_plain word = not (is_label word) && not (is_directive word)

find_keeps : {A : Type 0} (test good : A → Bool) (xs : List A) (x : A) → list_all good xs ≡ true → find test xs ≡ Some x →
    good x ≡ true
find_keeps test good [] x all e = absurd (cc)
find_keeps {A} test good (first ∷ xs) x all e =
    let each = both_true (good first) (list_all good xs) all in
    by_test (test first)
    (λ is. subst (λ (y : A). good y ≡ true) (cc (rw is at e)) each.0)
    (λ is-not. find_keeps test good xs x each.1 (rw is-not at e))

table_plain : list_all (λ (e : Entry). is_plain e.word) table ≡ true
table_plain = refl

row_word_plain : (word : List ℕ) (entry : Entry) → entry_named table word ≡ Some entry → is_plain word ≡ true
row_word_plain word entry e =
    let same : entry.word ≡ word = is_bytes entry.word word (find_passes (λ (f : Entry). bytes_eq f.word word) table entry e) in
    subst (λ (w : List ℕ). is_plain w ≡ true) same
    (find_keeps (λ (f : Entry). bytes_eq f.word word) (λ (f : Entry). is_plain f.word) table entry table_plain e)

-- a row's first word is neither a label nor a directive
row_plain : (word : List ℕ) (words : List (List ℕ)) (row : SymbolicRow Name) → SpellRow (word ∷ words) row →
    (is_label word ≡ false) × (is_directive word ≡ false)
row_plain word words row s =
    let first : word ≡ s.1 = cc (s.4) in
    let plain : is_plain word ≡ true = row_word_plain word s.0 (subst (λ (w : List ℕ). entry_named table w ≡ Some s.0) (sym first) s.5) in
    grind (arith, both_true, not_true)

-- ---- a line of one word or more

pub directive_behind_takes : (before : List (Line Name)) (word : List ℕ) (words : List (List ℕ)) (s : Statement Name) →
    is_directive word ≡ true → directive_behind before word words ≡ Ok s → Spell (word ∷ words) s × Follows before s
unfolding directive_behind
directive_behind_takes before word words s known e = grind (arith, check_ok, bound, ok_is, directive_takes, or_right)

pub row_behind_takes : (before : List (Line Name)) (label : Option Name) (word : List ℕ) (words : List (List ℕ)) (s : Statement Name) →
    is_new before label ≡ true → row_behind before label word words ≡ Ok s →
    (row : SymbolicRow Name) × (statement.Row label row ≡ s) × SpellRow (word ∷ words) row × Follows before (statement.Row label row)
unfolding row_behind
row_behind_takes before label word words s new e = grind (arith, bound, check_ok, ok_is, row_takes)

labelled_takes : (before : List (Line Name)) (name : Name) (word : List ℕ) (words : List (List ℕ)) (s : Statement Name) →
    SpellsLabel word name → is_new before (Some name) ≡ true → labelled_behind before name words ≡ Ok s →
    Spell (word ∷ words) s × Follows before s
unfolding labelled_behind
labelled_takes before name word [] s label new e = grind (arith, ok_is)
labelled_takes before name word (first ∷ words) s label new e =
    let plain = passed (is_directive first) (fault_at (length words + 1) fault.MisplacedDirective) (row_behind before (Some name) first words) s e in
    let row = row_behind_takes before (Some name) first words s new plain.1 in
    subst (λ (q : Statement Name). Spell (word ∷ first ∷ words) q × Follows before q) row.1
    ((word, first ∷ words, refl, label, row.2), row.3)

pub statement_takes : (before : List (Line Name)) (word : List ℕ) (words : List (List ℕ)) (s : Statement Name) →
    statement_behind before word words ≡ Ok s → Spell (word ∷ words) s × Follows before s
unfolding statement_behind
statement_takes before word words s e =
    by_test (is_label word)
    (λ is.
    bound_at (length words + 1) (name_at (before_last word)) _ s (rw is at e) (λ name named e.
    let new = check_ok (is_new before (Some name)) (fault_at (length words + 1) fault.NameTwice) _ s e in
    let name-is = name_takes (before_last word) name named in
    let spelled : word ≡ name ++ codes ":" = label_spelled word is ∙ ap (λ (w : List ℕ). w ++ codes ":") name-is.0 in
    labelled_takes before name word words s (spelled, name-is.1) new.0 new.1))
    (λ no-label. by_test (is_directive word)
    (λ is. directive_behind_takes before word words s is (rw (no-label, is) at e))
    (λ no-directive.
    let row = row_behind_takes before None word words s refl (rw (no-label, no-directive) at e) in
    subst (λ (q : Statement Name). Spell (word ∷ words) q × Follows before q) row.1 (row.2, row.3)))

label_again : (before : List (Line Name)) (name : Name) (words : List (List ℕ)) (s : Statement Name) → is_name name ≡ true →
    is_new before (Some name) ≡ true → labelled_behind before name words ≡ Ok s →
    statement_behind before (name ++ codes ":") words ≡ Ok s
unfolding statement_behind
label_again before name words s named new e = grind (arith, is_label_again, take_at, length-append, name_again)

row_behind_again : (before : List (Line Name)) (label : Option Name) (word : List ℕ) (words : List (List ℕ)) (row : SymbolicRow Name) →
    SpellRow (word ∷ words) row → has_room before (statement.Row label row) ≡ true →
    row_behind before label word words ≡ Ok (statement.Row label row)
unfolding row_behind
row_behind_again before label word words row s room = rw (row_again word words row s, room) refl

labelled_row_again : (before : List (Line Name)) (name : Name) (words : List (List ℕ)) (row : SymbolicRow Name) →
    SpellRow words row → has_room before (statement.Row (Some name) row) ≡ true →
    labelled_behind before name words ≡ Ok (statement.Row (Some name) row)
unfolding labelled_behind
labelled_row_again before name [] row s room = absurd (cc (s.4))
labelled_row_again before name (word ∷ words) row s room =
    rw ((row_plain word words row s).1) (row_behind_again before (Some name) word words row s room)

row_statement_again : (before : List (Line Name)) (word : List ℕ) (words : List (List ℕ)) (row : SymbolicRow Name) →
    SpellRow (word ∷ words) row → has_room before (statement.Row None row) ≡ true →
    statement_behind before word words ≡ Ok (statement.Row None row)
unfolding statement_behind
row_statement_again before word words row s room =
    let plain = row_plain word words row s in
    rw (plain.0, plain.1) (row_behind_again before None word words row s room)

pub statement_again : (before : List (Line Name)) (word : List ℕ) (words : List (List ℕ)) (s : Statement Name) →
    Spell (word ∷ words) s → Follows before s → statement_behind before word words ≡ Ok s
unfolding statement_behind directive_behind directive_at labelled_behind
statement_again before word words (statement.Phaser p) s f =
    let a = phaser_again word words p s in
    subst (λ (w : List ℕ). statement_behind before w words ≡ Ok (statement.Phaser p)) (sym a.0) (rw (f.place, a.1, f.name, f.room) refl)
statement_again before word words (statement.Barrier b) s f =
    let a = barrier_again word words b s in
    subst (λ (w : List ℕ). statement_behind before w words ≡ Ok (statement.Barrier b)) (sym a.0) (rw (f.place, a.1, f.name, f.room) refl)
statement_again before word words (statement.Thread t) s f =
    let a = thread_again word words t s in
    subst (λ (w : List ℕ). statement_behind before w words ≡ Ok (statement.Thread t)) (sym a.0) (rw (f.place, a.1, f.name, f.room) refl)
statement_again before word words (statement.Cell name) s f =
    let a = cell_again word words name s in
    subst (λ (w : List ℕ). statement_behind before w words ≡ Ok (statement.Cell name)) (sym a.0) (rw (f.place, a.1, f.name, f.room) refl)
statement_again before word words (statement.Label name) s f =
    let spelled : word ≡ name ++ codes ":" = cc (s.1, s.2.0) in
    let none : words ≡ [] = cc (s.1) in
    subst (λ (w : List ℕ). statement_behind before w words ≡ Ok (statement.Label name)) (sym spelled)
    (subst (λ (ws : List (List ℕ)). statement_behind before (name ++ codes ":") ws ≡ Ok (statement.Label name)) (sym none)
    (label_again before name [] (statement.Label name) s.2.1 f.name refl))
statement_again before word words (statement.Row None row) s f = row_statement_again before word words row s f.room
statement_again before word words (statement.Row (Some name) row) s f =
    let spelled : word ≡ name ++ codes ":" = cc (s.2, s.3.0) in
    let others : s.1 ≡ words = cc (s.2) in
    subst (λ (w : List ℕ). statement_behind before w words ≡ Ok (statement.Row (Some name) row)) (sym spelled)
    (label_again before name words (statement.Row (Some name) row) s.3.1 f.name
    (labelled_row_again before name words row (subst (λ (ws : List (List ℕ)). SpellRow ws row) others s.4) f.room))

-- ---- the words of a line, and a line

-- words say nothing, or what may follow the lines before
abbrev WordsSay : List (Line Name) → List (List ℕ) → Option (Statement Name) → Type 0
WordsSay before words None = words ≡ []
WordsSay before words (Some said) = Spell words said × Follows before said

-- a line says nothing, or what may follow the lines before
abbrev pub LineSays : List (Line Name) → List ℕ → Option (Statement Name) → Type 0
LineSays before text None = SaysNothing text
LineSays before text (Some said) = Says text said × Follows before said

words_take : (before : List (Line Name)) (words : List (List ℕ)) (o : Option (Statement Name)) →
    words_behind before words ≡ Ok o → WordsSay before words o
unfolding words_behind
words_take before words o e = grind (arith, ok_is, bound, statement_takes)

words_again : (before : List (Line Name)) (words : List (List ℕ)) (o : Option (Statement Name)) →
    WordsSay before words o → words_behind before words ≡ Ok o
unfolding words_behind
words_again before words o s = grind (arith, statement_again)

said_by : (before : List (Line Name)) (text : List ℕ) (o : Option (Statement Name)) → IsLine text →
    WordsSay before (words_of text) o → LineSays before text o
said_by before text o is s = grind arith

words_taken : (text : List ℕ) (words : List (List ℕ)) → line_words text ≡ Ok words → IsLine text × (words_of text ≡ words)
unfolding line_words
words_taken text words e = grind (arith, check_ok, ltb-false, not_true, ok_is)

-- the words of a line are as many as were read of it
pub words_counted : (text : List ℕ) (words : List Borrowed) → line_words text ≡ Ok (map name_seen words) →
    length words ≡ length (words_of text)
words_counted text words read =
    sym (length-map words name_seen) ∙ sym (ap length (words_taken text (map name_seen words) read).1)

pub line_takes : (before : List (Line Name)) (text : List ℕ) (o : Option (Statement Name)) →
    line_behind before text ≡ Ok o → LineSays before text o
unfolding line_behind
line_takes before text o e = grind (arith, bound_at, words_taken, said_by, words_take)

line_words_again : (text : List ℕ) → IsLine text → line_words text ≡ Ok (words_of text)
unfolding line_words
line_words_again text is = grind (arith, le-ltb)

line_behind_again : (before : List (Line Name)) (text : List ℕ) (o : Option (Statement Name)) → IsLine text →
    WordsSay before (words_of text) o → line_behind before text ≡ Ok o
unfolding line_behind
line_behind_again before text o is s = grind (arith, line_words_again, words_again)

pub line_again : (before : List (Line Name)) (text : List ℕ) (o : Option (Statement Name)) → LineSays before text o →
    line_behind before text ≡ Ok o
line_again before text None s = line_behind_again before text None s.0 s.1
line_again before text (Some said) s = line_behind_again before text (Some said) s.0.0 (s.0.1, s.1)
