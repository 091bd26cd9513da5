use Rattle.std.proofs.Common.{rules, ◌≡◌, ℕ, List, Option, Some, Result, Ok, Err, OnOk, subst, sym, codes}
use Rattle.std.proofs.KnownBytes.{Appends-trans}
use Rattle.std.specs.{Fmt.decimal, Io.KnownBytes.Appends}
use Rattle.workbench.specs.Fault.{counted_line}
use Rattle.commands.specs.Unplanned.{plan_line}
use Rattle.commands.proofs.unplanned.push_plan_line.Goals as goal

-- its three pieces, of which the last may fail
pieces : {X E : Type 0} (last : Result X E) (a b c d : Option (List ℕ)) (digits : List ℕ) (line : ℕ) (kind : Option ℕ) (number : ℕ)
    → kind ≡ Some number → digits ≡ decimal line → Appends a b (codes "refused plan ") → Appends b c digits
    → OnOk last (Appends c d (counted_line (codes " ") number)) → OnOk last (Appends a d (plan_line line kind))
pieces (Ok x) a b c d digits line kind number is same first second third =
    subst (λ k. Appends a d (plan_line line k)) (sym is)
    (Appends-trans a b d (codes "refused plan ") _ first
    (Appends-trans b c d (decimal line) (counted_line (codes " ") number) (subst (Appends b c) same second) third))
pieces (Err x) a b c d digits line kind number is same first second third = third

pub returns-in_ok-push-in-Some-2-clause-bytes : goal.returns-in_ok-push-in-Some-2-clause-bytes
returns-in_ok-push-in-Some-2-clause-bytes g c =
    let digits : c.as_bytes.result.now ≡ decimal c.args.line = search rules in
    pieces c.push_counted_line.result _ _ _ _ c.as_bytes.result.now c.args.line c.args.number c.in-Some.number c.in-Some.is digits
    c.in_ok-push-in-Some.ensures.bytes c.in_ok-push-in-Some-2.ensures.bytes (rw c.from.ensures at c.push_counted_line.ensures.bytes)
