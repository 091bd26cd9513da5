-- Each line of a canonical text may stand behind the lines before it.
use Rattle.std.proofs.Common.{◌≡◌, ℕ, ◌+◌, ◌<◌, ◌≤◌, false, not, ◌||◌, nat_lt, List, [], ◌∷◌, ◌++◌, length, bytes_eq, Some, refl, sym, ap, subst, ◌∙◌, arith, append_assoc, append-nil, lt-ltb, decimal}
use Rattle.std.proofs.lemmas.{Fmt.decimal_injective, List.Folds.list_any-append, Slice.Eq.bytes_eq-Decides}
use Rattle.instruction_table.specs.declared.{row.Row.Row, shape.OperandKind.OperandKind}
use Rattle.instruction_table.specs.declared.shape.OperandKind.TheVariants as kind
use Rattle.line_reader.specs.{declared.statement.Line.Line, declared.statement.Statement.Statement, Symbols.Name}
use Rattle.line_reader.specs.Listing.{numbered}
use Rattle.assembler.specs.Statements.{name_in, is_named, gives, adds, count, is_given, is_code, has_code, has_room, is_new, Follows, EachFollows}
use Rattle.assembler.proofs.{CanonicalRows.row_said, NumberedLines.lines_from}

-- ---- lists of lines

count-append : (k : OperandKind) (a b : List (Line Name)) → count k (a ++ b) ≡ count k a + count k b
count-append k [] b = omega arith
count-append k (line ∷ a) b = omega (arith, count-append k a b)

-- statements in two parts, the second from any number on
pub EachFollows-append : (before : List (Line Name)) (n : ℕ) (a b : List (Statement Name)) →
    EachFollows before (lines_from n a) →
    ((m : ℕ) → EachFollows (before ++ lines_from n a) (lines_from m b)) → EachFollows before (lines_from n (a ++ b))
EachFollows-append before n [] b h k = subst (λ bs. EachFollows bs (lines_from n b)) (append-nil before) (k n)
EachFollows-append before n (said ∷ a) b h k =
    let line : Line Name = record { number = n; statement = said } in (
      h.0,
      EachFollows-append (before ++ (line ∷ [])) (n + 1) a b h.1
          (λ m. subst (λ bs. EachFollows bs (lines_from m b)) (sym (append_assoc before (line ∷ []) (lines_from (n + 1) a))) (k m)),
    )

-- ---- names

other_number : (letter m n : ℕ) → m < 64 → n < 64 → (m ≡ n → ⊥) →
    bytes_eq (letter ∷ decimal m) (letter ∷ decimal n) ≡ false
other_number letter m n p q differ = grind (arith, bytes_eq-Decides, decimal_injective)

other_letter : (a b m n : ℕ) → (a ≡ b → ⊥) → bytes_eq (a ∷ decimal m) (b ∷ decimal n) ≡ false
other_letter a b m n differ = grind (arith, bytes_eq-Decides)

-- ---- directives

-- what declares a thing of a kind, by a letter and its number
pub record IsDirective {A : Type 0} (letter : ℕ) (k : OperandKind) (said : ℕ → A → Statement Name) : Type 0 where
  pub name : (n : ℕ) (x : A) → name_in (said n x) ≡ Some (letter ∷ decimal n)
  pub adds_one : (n : ℕ) (x : A) → adds k (said n x) ≡ 1
  pub code : (n : ℕ) (x : A) → is_code (said n x) ≡ false
  pub room : (before : List (Line Name)) (n : ℕ) (x : A) → has_room before (said n x) ≡ nat_lt (count k before) 64

-- so many things of a kind, no code, and no name with this letter from that number on
pub record IsFree (letter : ℕ) (k : OperandKind) (n : ℕ) (before : List (Line Name)) : Type 0 where
  pub counted : count k before ≡ n
  pub no_code : has_code before ≡ false
  pub fresh : (m : ℕ) → n ≤ m → m < 64 → is_given (letter ∷ decimal m) before ≡ false

pub free_first : (letter : ℕ) (k : OperandKind) → IsFree letter k 0 []
free_first letter k = record { counted = refl; no_code = refl; fresh = λ m a b. refl }

-- one more line
free_more : (letter : ℕ) (k : OperandKind) (n d : ℕ) (before : List (Line Name)) (line : Line Name) →
    IsFree letter k n before →
    adds k line.statement ≡ d → is_code line.statement ≡ false →
    ((m : ℕ) → n + d ≤ m → m < 64 → gives (letter ∷ decimal m) line.statement ≡ false) →
    IsFree letter k (n + d) (before ++ (line ∷ []))
free_more letter k n d before line free more no_code other = grind (arith, count-append, list_any-append)

-- a line that declares the next of the same kind
free_next : {A : Type 0} (letter : ℕ) (k : OperandKind) (said : ℕ → A → Statement Name) → IsDirective letter k said →
    (n j : ℕ) (x : A) (before : List (Line Name)) → n < 64 → IsFree letter k n before →
    IsFree letter k (n + 1) (before ++ (record { number = j; statement = said n x } ∷ []))
free_next letter k said d n j x before small free =
    free_more letter k n 1 before (record { number = j; statement = said n x }) free (d.adds_one n x) (d.code n x)
    (λ m from below. ap (is_named (letter ∷ decimal m)) (d.name n x) ∙ other_number letter n m small below (λ e. omega arith))

-- lines that declare things of another kind
pub free_behind : {A : Type 0} (letter other : ℕ) (k : OperandKind) (said : ℕ → A → Statement Name) →
    (letter ≡ other → ⊥) →
    ((n : ℕ) (x : A) → name_in (said n x) ≡ Some (other ∷ decimal n)) → ((n : ℕ) (x : A) → adds k (said n x) ≡ 0) →
    ((n : ℕ) (x : A) → is_code (said n x) ≡ false) →
    (n : ℕ) (xs : List A) (m j : ℕ) (before : List (Line Name)) → IsFree letter k n before →
    IsFree letter k n (before ++ lines_from j (numbered said m xs))
free_behind letter other k said differ names none no_code n [] m j before free = subst (IsFree letter k n) (sym (append-nil before)) free
free_behind letter other k said differ names none no_code n (x ∷ xs) m j before free =
    let line : Line Name = record { number = j; statement = said m x } in
    let next : IsFree letter k (n + 0) (before ++ (line ∷ [])) =
    free_more letter k n 0 before line free (none m x) (no_code m x)
    (λ l from below. ap (is_named (letter ∷ decimal l)) (names m x) ∙ other_letter other letter m l (λ e. differ (sym e))) in
    let same : IsFree letter k n (before ++ (line ∷ [])) = subst (λ c. IsFree letter k c (before ++ (line ∷ []))) (omega arith) next in
    subst (IsFree letter k n) (append_assoc before (line ∷ []) (lines_from (j + 1) (numbered said (m + 1) xs)))
    (free_behind letter other k said differ names none no_code n xs (m + 1) (j + 1) (before ++ (line ∷ [])) same)

-- directives of one kind follow one another
pub directives_follow : {A : Type 0} (letter : ℕ) (k : OperandKind) (said : ℕ → A → Statement Name) →
    IsDirective letter k said →
    (xs : List A) (n j : ℕ) (before : List (Line Name)) → n + length xs ≤ 64 → IsFree letter k n before →
    EachFollows before (lines_from j (numbered said n xs))
directives_follow letter k said d [] n j before room free = tt
directives_follow letter k said d (x ∷ xs) n j before room free =
    let line : Line Name = record { number = j; statement = said n x } in
    let follows : Follows before (said n x) = record {
      name = ap (is_new before) (d.name n x) ∙ ap not (free.fresh n (omega arith) (omega arith));
      place = λ i. d.code n x i || not (free.no_code i);
      room = d.room before n x ∙ lt-ltb (count k before) 64 (omega (arith, free.counted));
    } in (
      follows,
      directives_follow letter k said d xs (n + 1) (j + 1) (before ++ (line ∷ [])) (omega arith)
          (free_next letter k said d n j x before (omega arith) free),
    )

-- ---- rows

pub rows_follow : (rows : List Row) (n j : ℕ) (before : List (Line Name)) →
    count kind.Target before + length rows ≤ 65535 →
    EachFollows before (lines_from j (numbered (λ k row. row_said row) n rows))
rows_follow [] n j before room = tt
rows_follow (row ∷ rows) n j before room =
    let line : Line Name = record { number = j; statement = row_said row } in
    let follows : Follows before (row_said row) = record {
      name = refl;
      place = refl;
      room = lt-ltb (count kind.Target before) 65535 (omega arith);
    } in
    let counted : count kind.Target (before ++ (line ∷ [])) ≡ count kind.Target before + 1 = count-append kind.Target before (line ∷ []) in
    (follows, rows_follow rows (n + 1) (j + 1) (before ++ (line ∷ [])) (omega (arith, counted)))
