-- A comparison behind the lines of a trace that were taken.
use Rattle.std.proofs.Common.{◌≡◌, ◌≢◌, ◌∙◌, ◌+◌, ◌≤◌, ◌⊎◌, ℕ, List, [], ◌∷◌, ◌++◌, length, drop, take, Option, Some, None, Ok, refl, ap, sym, subst, arith, append_assoc, append-nil, length-append, take-append-drop, inl, inr}
use Rattle.std.proofs.KnownBytes.{Consumes-nil, Consumes-trans, prepend_known-nil}
use Rattle.std.specs.Io.KnownBytes.{Consumes, IsAtEnd, prepend_known}
use Rattle.byte_ports.specs.SourceLines.{EndsInAPiece, Gave, HasCome, IsOneLine, Lines, taken}
use Rattle.byte_ports.specs.declared.source_lines.LineEnded.{LineEnded}
use Rattle.byte_ports.specs.declared.source_lines.LineEnded.TheVariants as how
use Rattle.trace_compare.specs.declared.comparison.{Comparison.Comparison, Verdict.Verdict}
use Rattle.trace_compare.specs.{Compare.IsReadNoFurther, Compare.IsReadUpTo, NamedLines.none_read}
use Rattle.trace_compare.specs.Comparing.{GoesOver, HasComeTo, HasJudged, HasLeft, bytes_left, reported_by}
use Rattle.trace_compare.proofs.{NamedLines.unread, OwnLines.ends-append, OwnLines.ends-behind, OwnLines.ends-line}

read-more : (n m : ℕ) (a b : Option (List ℕ)) → n ≤ m → IsReadUpTo n a b → IsReadUpTo m a b
read-more n m a b few (front, (piece, (gone, size, before))) = (front, (piece, (gone, size, omega (arith, few, before))))

-- before the first line
pub come-first : (now : Comparison) (a : Option (List ℕ)) → now.number ≡ 1 → HasComeTo now now none_read 0 a a
come-first now a is = grind (arith, Consumes-nil)

-- some of what is held
consumes-held : (a : Option (List ℕ)) (count : ℕ) (held : List ℕ)
    → Consumes (prepend_known held a) (prepend_known (drop count held) a) (take count held)
consumes-held None count held = tt
consumes-held (Some x) count held =
    ap (λ l. l ++ x) (sym (take-append-drop count held)) ∙ append_assoc (take count held) (drop count held) x

-- behind lines that are taken where they lie
pub come-over : {first now next : Comparison} {x : Lines} (y : Lines) {turns count : ℕ} {a b : Option (List ℕ)} {bytes : List ℕ}
    → HasComeTo first now x turns a b → bytes ≡ x.held → GoesOver now next bytes count → y.held ≡ drop count x.held → y.reads ≡ x.reads
    → HasComeTo first next y turns a b
come-over {first} {now} {next} {x} y {turns} {count} {a} {b} come there goes held reads =
    let over : GoesOver now next x.held count = subst (λ l. GoesOver now next l count) there goes in
    let front = take count x.held in
    let rest = drop count x.held in
    let size : length x.held ≡ length front + length rest =
    ap length (sym (take-append-drop count x.held)) ∙ length-append front rest in
    record {
      bytes = come.bytes ++ front;
      gone = (
        Consumes-trans (prepend_known [] a) (prepend_known x.held b) (prepend_known y.held b) come.bytes front come.gone.0
            (subst (λ h. Consumes (prepend_known x.held b) (prepend_known h b) front) (sym held) (consumes-held b count x.held)),
        omega (arith, come.gone.1, reads, ap length held, size, length-append come.bytes front),
      );
      left = λ more.
          ap (bytes_left first)
          (append_assoc come.bytes front (y.held ++ more)
          ∙ ap (λ h. come.bytes ++ (front ++ (h ++ more))) held
          ∙ ap (λ l. come.bytes ++ l) (sym (append_assoc front rest more) ∙ ap (λ l. l ++ more) (take-append-drop count x.held)))
          ∙ come.left more ∙ over.left more ∙ ap (λ h. bytes_left next (h ++ more)) (sym held);
      counted = omega (arith, come.counted, over.counted, ends-append come.bytes front);
      some = omega (arith, come.some, length-append come.bytes front);
      far = read-more now.number next.number a b (omega (arith, over.counted)) come.far;
    }

-- behind a read
pub read-behind : {first now : Comparison} {x : Lines} (y : Lines) {turns : ℕ} {a b : Option (List ℕ)} (c : Option (List ℕ)) (bytes : List ℕ)
    → HasComeTo first now x turns a b → Consumes (prepend_known x.held b) (prepend_known y.held c) bytes
    → (c ≡ b) ⊎ EndsInAPiece (bytes ++ y.held) → IsReadUpTo now.number a c
read-behind {first} {now} {x} y {turns} {a} {b} c bytes come gone (inl same) = subst (IsReadUpTo now.number a) (sym same) come.far
read-behind {first} {now} {x} y {turns} {a} {b} c bytes come gone (inr (front, (piece, (is, one, few)))) = (
  come.bytes ++ front,
  (
    piece,
    (
      subst (λ o. Consumes o c ((come.bytes ++ front) ++ piece)) (prepend_known-nil a)
          (subst (Consumes (prepend_known [] a) c)
          (append_assoc come.bytes bytes y.held ∙ ap (λ l. come.bytes ++ l) is ∙ sym (append_assoc come.bytes front piece))
          (unread (prepend_known [] a) c (come.bytes ++ bytes) y.held (Consumes-trans _ _ _ come.bytes bytes come.gone.0 gone))),
      few,
      omega (arith, come.counted, ends-behind come.bytes front one),
    ),
  ),
)

-- what is left behind it
left-behind : (first now : Comparison) (x y : Lines) (turns : ℕ) (a b : Option (List ℕ)) (bytes got more : List ℕ)
    (come : HasComeTo first now x turns a b) → bytes ++ y.held ≡ x.held ++ got
    → bytes_left first ((come.bytes ++ bytes) ++ (y.held ++ more)) ≡ bytes_left now (bytes ++ (y.held ++ more))
left-behind first now x y turns a b bytes got more come is =
    let on : bytes ++ (y.held ++ more) ≡ x.held ++ (got ++ more) =
    sym (append_assoc bytes y.held more) ∙ ap (λ l. l ++ more) is ∙ append_assoc x.held got more in
    grind (arith, append_assoc)

-- a line more
pub come-line : {first now next : Comparison} {x y : Lines} {turns : ℕ} {a b c : Option (List ℕ)} (ended : LineEnded) (line : List ℕ)
    → HasComeTo first now x turns a b → IsOneLine line → HasJudged now next ended line None
    → Consumes (prepend_known x.held b) (prepend_known y.held c) (taken (Ok ended) line)
    → (ended ≢ how.AtEnd → Gave x y (length (taken (Ok ended) line)))
    → (got : List ℕ) × (taken (Ok ended) line ++ y.held ≡ x.held ++ got) → IsReadUpTo now.number a c
    → HasComeTo first next y (turns + 1) a c
come-line {first} {now} {next} {x} {y} {turns} {a} {b} {c} how.Whole line come one (whole, number, judged) gone gave (got, is) far =
    let bytes = line ++ 10 ∷ [] in
    let given : Gave x y (length bytes) = gave (λ e. cc) in
    record {
      bytes = come.bytes ++ bytes;
      gone = (
        Consumes-trans (prepend_known [] a) (prepend_known x.held b) (prepend_known y.held c) come.bytes bytes come.gone.0 gone,
        omega (arith, come.gone.1, given, length-append come.bytes bytes),
      );
      left = λ more. left-behind first now x y turns a b bytes got more come is ∙ judged (y.held ++ more);
      counted = omega (arith, come.counted, number, ends-line come.bytes line one);
      some = omega (arith, come.some, length-append come.bytes bytes, length-append line (10 ∷ []));
      far = read-more now.number next.number a c (omega (arith, number)) far;
    }
come-line ended line come one given gone gave behind far = grind arith

-- a verdict
pub come-verdict : {first now : Comparison} (next : Comparison) {x : Lines} (y : Lines) {turns : ℕ} {a b : Option (List ℕ)}
    (c : Option (List ℕ)) (ended : LineEnded) (line : List ℕ) (v : Verdict) → HasComeTo first now x turns a b → HasJudged now next ended line (Some v)
    → Consumes (prepend_known x.held b) (prepend_known y.held c) (taken (Ok ended) line)
    → (got : List ℕ) × (taken (Ok ended) line ++ y.held ≡ x.held ++ got) → HasCome ended line (prepend_known y.held c)
    → (ended ≡ how.AtEnd → y.held ≡ []) → (bytes : List ℕ) × (Consumes a c bytes × HasLeft first bytes c (reported_by v next))
come-verdict {first} {now} next {x} y {turns} {a} {b} c ended line v come judged gone (got, is) came all =
    let bytes = taken (Ok ended) line in (
      (come.bytes ++ bytes) ++ y.held,
      (
        subst (λ o. Consumes o c ((come.bytes ++ bytes) ++ y.held)) (prepend_known-nil a)
            (unread (prepend_known [] a) c (come.bytes ++ bytes) y.held (Consumes-trans _ _ _ come.bytes bytes come.gone.0 gone)),
        by ended judged is came all,
      ),
    )
  where
    by : (ended : LineEnded) → HasJudged now next ended line (Some v) → taken (Ok ended) line ++ y.held ≡ x.held ++ got
        → HasCome ended line (prepend_known y.held c) → (ended ≡ how.AtEnd → y.held ≡ [])
        → HasLeft first ((come.bytes ++ taken (Ok ended) line) ++ y.held) c (reported_by v next)
    by how.Whole (stands, judged) is came all =
        inr (λ rest. ap (bytes_left first) (append_assoc (come.bytes ++ (line ++ 10 ∷ [])) y.held rest)
        ∙ left-behind first now x y turns a b (line ++ 10 ∷ []) got rest come is ∙ judged (y.held ++ rest))
    by how.TooLong (stands, judged) is came all =
        inr (λ rest. ap (bytes_left first) (append_assoc (come.bytes ++ line) y.held rest)
        ∙ left-behind first now x y turns a b line got rest come is ∙ judged (y.held ++ rest))
    by how.AtEnd (stands, judged) is came all =
        let none = all refl in
        inl (
          subst IsAtEnd (ap (λ h. prepend_known h c) none ∙ prepend_known-nil c) came.1,
          ap (λ h. bytes_left first ((come.bytes ++ line) ++ h)) (sym (append-nil y.held))
              ∙ left-behind first now x y turns a b line got [] come is
              ∙ ap (bytes_left now) (ap (λ h. line ++ (h ++ [])) none ∙ append-nil line) ∙ judged,
        )

-- and no more was read than it needs
pub come-far : (now next : Comparison) (y : Lines) (a c : Option (List ℕ)) (ended : LineEnded) (line : List ℕ) (v : Verdict)
    → HasJudged now next ended line (Some v) → IsReadUpTo now.number a c → HasCome ended line (prepend_known y.held c)
    → (ended ≡ how.AtEnd → y.held ≡ []) → IsReadNoFurther a c v
come-far now next y a c ended line v given far came all = grind arith
