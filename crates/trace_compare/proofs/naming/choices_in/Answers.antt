use Rattle.std.proofs.Common.{◌≡◌, ◌∙◌, ◌+◌, ◌++◌, ◌∷◌, [], Ok, Err, ap, arith, append-nil, inl, inr, refl, subst, sym}
use Rattle.schedule_reader.specs.{Joined.AreJoined, Schedule.choices_of}
use Rattle.trace_compare.specs.declared.naming.NextName.TheVariants as next
use Rattle.trace_compare.specs.NamedLines.{HasTaken, none_read}
use Rattle.trace_compare.proofs.NamedLines.{or_else, taken-lines, taken-more, taken-named, taken-on}
use Rattle.trace_compare.proofs.naming.choices_in.Goals as goal

pub push_joined-requires-clause-thread : goal.push_joined-requires-clause-thread
push_joined-requires-clause-thread g c =
    let is : c.next_name.result ≡ Ok (next.Made c.in-Ok-Made.choice) = cc in
    c.next_name.ensures.thread c.in-Ok-Made.choice (inl is)

pub returns-in-Ok-State-clause-named : goal.returns-in-Ok-State-clause-named
returns-in-Ok-State-clause-named g c =
    let choices = choices_of c.loop-before.runs.items in
    let is : c.next_name.result ≡ Ok next.State = cc in
    taken-named next.State (Ok choices) c.loop-before.invariant.taken
    (c.next_name.ensures.last next.State is (λ choice e. cc) (c.loop-before.before + 1)) (ap Ok (append-nil choices))

pub returns-in-Ok-NotATrace-clause-named : goal.returns-in-Ok-NotATrace-clause-named
returns-in-Ok-NotATrace-clause-named g c =
    let is : c.next_name.result ≡ Ok next.NotATrace = cc in
    taken-named next.NotATrace (Err (c.loop-before.before + 1)) c.loop-before.invariant.taken
    (c.next_name.ensures.last next.NotATrace is (λ choice e. cc) (c.loop-before.before + 1)) refl

pub returns-in-Ok-CutOff-clause-named : goal.returns-in-Ok-CutOff-clause-named
returns-in-Ok-CutOff-clause-named g c =
    let last = c.in-Ok-CutOff.field-0-0 in
    let is : c.next_name.result ≡ Ok (next.CutOff last) = cc in
    let number : c.loop-before.before + 1 + 1 ≡ c.loop-before.before + 2 = omega arith in
    taken-named (next.CutOff last) (Err (c.loop-before.before + 2)) c.loop-before.invariant.taken
    (c.next_name.ensures.last (next.CutOff last) is (λ choice e. cc) (c.loop-before.before + 1)) (ap Err number)

pub returns-in-Err-clause-read : goal.returns-in-Err-clause-read
returns-in-Err-clause-read g c = λ _.
    or_else c.in-Err.ensures.failed (λ p. taken-on c.next_name.new.lines (g.S.Source.left c.next_name.new.trace) c.loop-before.invariant.taken p.1 p.0)

pub loop-before-preserved : goal.loop-before-preserved
loop-before-preserved g c =
    let choices = choices_of c.loop-before.runs.items in
    let choice = c.in-Ok-Made.choice in
    let n = c.loop-before.before + 1 in
    let is : c.next_name.result ≡ Ok (next.Made choice) = cc in
    let grown : choices_of c.push_joined.new.runs.items ≡ choices ++ choice ∷ [] =
    c.push_joined.ensures.choices ∙ ap (λ runs. choices_of runs ++ choice ∷ []) c.reserve.ensures.items in
    record {
      taken = subst (λ cs. HasTaken 1 cs (n + 1) none_read c.next_name.new.lines (g.S.Source.left c.args.trace.now) (g.S.Source.left c.next_name.new.trace))
          (sym grown)
          (taken-more c.loop-before.invariant.taken (c.next_name.ensures.made choice is n));
      runs = c.push_joined.ensures.runs;
      joined = c.push_joined.ensures.joined (subst AreJoined (sym c.reserve.ensures.items) c.loop-before.invariant.joined);
      sound = λ sound. c.in-Ok-Made.ensures.sound (c.loop-before.invariant.sound sound);
    }

pub returns-clause-read : goal.returns-clause-read
returns-clause-read g c = λ _.
    inr (taken-lines c.loop-before.invariant.taken (omega (arith, c.loop-before-test.false)))
