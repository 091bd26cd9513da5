use Rattle.std.proofs.Common.{◌≡◌, ◌≢◌, ◌∙◌, ◌+◌, ◌++◌, ℕ, List, [], ◌∷◌, Ok, Some, ap, arith, length, length-append, subst, sym, rules, All}
use Rattle.std.specs.Io.KnownBytes.{Consumes}
use Rattle.workbench.proofs.Conversations.{one_more, given_on}
use Rattle.workbench.proofs.companion.AnyCompanion.next_line.Goals as goal

pub returns-in-Ok-Some-eq10-clause-ended : goal.returns-in-Ok-Some-eq10-clause-ended
returns-in-Ok-Some-eq10-clause-ended g c = λ _.
    let is : c.in-Ok-Some-eq10.field-0 ≡ Some 10 = cc in
    let given = given_on _ _ _ c.loop-reads.line.items 10 c.loop-reads.invariant.given (c.in-Ok-Some-eq10.ensures.byte 10 (ap Ok is)) in
    (given, omega (arith, c.loop-reads.invariant.counted, c.loop-reads-test.true))

pub returns-then-is_err-clause-memory : goal.returns-then-is_err-clause-memory
returns-then-is_err-clause-memory g c = λ _.
    let is : c.in-Ok-Some.field-0 ≡ Some c.in-Ok-Some.byte = cc in (
      c.loop-reads.line.items ++ c.in-Ok-Some.byte ∷ [],
      (
        one_more c.loop-reads.line.items c.in-Ok-Some.byte c.loop-reads.invariant.no_end c.in-Ok-Some.byte-test.1,
        given_on _ _ _ c.loop-reads.line.items c.in-Ok-Some.byte c.loop-reads.invariant.given
            (c.in-Ok-Some.ensures.byte c.in-Ok-Some.byte (ap Ok is)),
      ),
    )

pub loop-reads-preserved : goal.loop-reads-preserved
loop-reads-preserved g c =
    let is : c.in-Ok-Some.field-0 ≡ Some c.in-Ok-Some.byte = cc in
    let grown : c.push.new.self.items ≡ c.loop-reads.line.items ++ c.in-Ok-Some.byte ∷ [] = search rules in
    let longer : length c.push.new.self.items ≡ length c.loop-reads.line.items + 1 =
    ap (λ (l : List ℕ). length l) grown ∙ length-append c.loop-reads.line.items (c.in-Ok-Some.byte ∷ []) in
    record {
      given = subst (Consumes _ _) (sym grown) (given_on _ _ _ c.loop-reads.line.items c.in-Ok-Some.byte c.loop-reads.invariant.given
          (c.in-Ok-Some.ensures.byte c.in-Ok-Some.byte (ap Ok is)));
      no_end = subst (All (λ byte. byte ≢ 10)) (sym grown) (one_more c.loop-reads.line.items c.in-Ok-Some.byte c.loop-reads.invariant.no_end c.in-Ok-Some.byte-test.1);
      counted = omega (arith, c.loop-reads.invariant.counted, c.loop-reads-test.true, longer);
    }

pub returns-in-Ok-Some-eq10-clause-few : goal.returns-in-Ok-Some-eq10-clause-few
returns-in-Ok-Some-eq10-clause-few g c =
    let is : c.in-Ok-Some-eq10.field-0 ≡ Some 10 = cc in
    let bytes = c.loop-reads.line.items ++ 10 ∷ [] in
    let given = given_on _ _ _ c.loop-reads.line.items 10 c.loop-reads.invariant.given (c.in-Ok-Some-eq10.ensures.byte 10 (ap Ok is)) in
    (bytes, (given, omega (arith, c.loop-reads.invariant.counted, c.loop-reads-test.true, length-append c.loop-reads.line.items (10 ∷ []))))

pub returns-then-is_err-clause-few : goal.returns-then-is_err-clause-few
returns-then-is_err-clause-few g c =
    let is : c.in-Ok-Some.field-0 ≡ Some c.in-Ok-Some.byte = cc in
    let bytes = c.loop-reads.line.items ++ c.in-Ok-Some.byte ∷ [] in
    let given = given_on _ _ _ c.loop-reads.line.items c.in-Ok-Some.byte c.loop-reads.invariant.given
    (c.in-Ok-Some.ensures.byte c.in-Ok-Some.byte (ap Ok is)) in
    (bytes, (given, omega (arith, c.loop-reads.invariant.counted, c.loop-reads-test.true, length-append c.loop-reads.line.items (c.in-Ok-Some.byte ∷ []))))

pub returns-clause-few : goal.returns-clause-few
returns-clause-few g c =
    (c.loop-reads.line.items, (c.loop-reads.invariant.given, omega (arith, c.loop-reads.invariant.counted)))
