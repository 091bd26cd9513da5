use Rattle.std.proofs.Common.{◌≡◌, ◌+◌, ◌++◌, ◌∷◌, [], Ok, Err, ap, arith, append-nil, inr, refl, subst, length-append}
use Rattle.trace_compare.specs.declared.naming.NextName.TheVariants as next
use Rattle.trace_compare.proofs.NamedLines.{or_else, taken-lines, taken-more, taken-named, taken-on}
use Rattle.debugger.specs.{declared.stop.Stop.Stop, Go.Stops}
use Rattle.workbench.proofs.debug.play_trace.Goals as goal

pub returns-in-Ok-State-clause-stopped : goal.returns-in-Ok-State-clause-stopped
returns-in-Ok-State-clause-stopped g c = λ stop same.
    let (choices, (taken, stops, count)) = c.loop-before.invariant in
    let is : c.next_name.result ≡ Ok next.State = cc in
    let stopped : c.loop-before.stop ≡ stop = cc in (
      choices,
      (
        taken-named next.State (Ok choices) taken (c.next_name.ensures.last next.State is (λ choice e. cc) (c.loop-before.before + 1))
            (ap Ok (append-nil choices)),
        subst (λ (s : Stop). Stops c.args.debugger.now choices s c.loop-before.debugger) stopped stops,
      ),
    )

pub returns-in-Ok-NotATrace-clause-none : goal.returns-in-Ok-NotATrace-clause-none
returns-in-Ok-NotATrace-clause-none g c = λ line same.
    let (choices, (taken, stops, count)) = c.loop-before.invariant in
    let is : c.next_name.result ≡ Ok next.NotATrace = cc in
    let here : c.loop-before.before + 1 ≡ line = cc in
    taken-named next.NotATrace (Err line) taken (c.next_name.ensures.last next.NotATrace is (λ choice e. cc) (c.loop-before.before + 1))
    (ap Err here)

pub returns-in-Ok-CutOff-clause-none : goal.returns-in-Ok-CutOff-clause-none
returns-in-Ok-CutOff-clause-none g c = λ line same.
    let (choices, (taken, stops, count)) = c.loop-before.invariant in
    let last = c.in-Ok-CutOff.field-0-0 in
    let is : c.next_name.result ≡ Ok (next.CutOff last) = cc in
    let here : c.loop-before.before + 2 ≡ line = cc in
    let number : c.loop-before.before + 1 + 1 ≡ line = omega (arith, here) in
    taken-named (next.CutOff last) (Err line) taken
    (c.next_name.ensures.last (next.CutOff last) is (λ choice e. cc) (c.loop-before.before + 1)) (ap Err number)

pub returns-in-Err-clause-fault : goal.returns-in-Err-clause-fault
returns-in-Err-clause-fault g c =
    let (choices, (taken, stops, count)) = c.loop-before.invariant in
    inr (
      refl,
      or_else c.in-Err.ensures.failed (λ p. taken-on c.next_name.new.lines (g.T.Source.left c.next_name.new.trace) taken p.1 p.0),
    )

pub loop-before-preserved : goal.loop-before-preserved
loop-before-preserved g c =
    let (choices, (taken, stops, count)) = c.loop-before.invariant in
    let choice = c.in-Ok-Made.choice in
    let n = c.loop-before.before + 1 in
    let is : c.next_name.result ≡ Ok (next.Made choice) = cc in (
      choices ++ choice ∷ [],
      (
        taken-more taken (c.next_name.ensures.made choice is n),
        c.go_on-stop.ensures c.args.debugger.now choices stops,
        omega (arith, count, length-append choices (choice ∷ [])),
      ),
    )

pub returns-clause-fault : goal.returns-clause-fault
returns-clause-fault g c =
    let (choices, (taken, stops, count)) = c.loop-before.invariant in
    inr (
      refl,
      inr (taken-lines taken (omega (arith, c.loop-before-test.false))),
    )
