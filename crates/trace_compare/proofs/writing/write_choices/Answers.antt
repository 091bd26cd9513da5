use Rattle.std.proofs.Common.{◌≡◌, ◌+◌, ◌++◌, ◌∷◌, [], Ok, Some, None, ap, arith, append-nil, inl, inr, refl}
use Rattle.std.proofs.KnownBytes.{Consumes-nil}
use Rattle.std.specs.Io.KnownBytes.{prepend_known}
use Rattle.trace_compare.specs.declared.naming.NextName.TheVariants as next
use Rattle.trace_compare.proofs.NamedLines.{or_else, taken-lines, taken-more, taken-on}
use Rattle.trace_compare.proofs.WrittenRuns.{ended-so, written-part}
use Rattle.trace_compare.proofs.writing.write_choices.Goals as goal

pub take-requires-clause-thread : goal.take-requires-clause-thread
take-requires-clause-thread g c =
    let is : c.next_name.result ≡ Ok (next.Made c.in-Ok-Made.choice) = cc in
    c.next_name.ensures.thread c.in-Ok-Made.choice (inl is)

pub take-requires-in-Ok-CutOff-clause-thread : goal.take-requires-in-Ok-CutOff-clause-thread
take-requires-in-Ok-CutOff-clause-thread g c =
    let is : c.next_name.result ≡ Ok (next.CutOff c.in-Ok-CutOff.choice) = cc in
    c.next_name.ensures.thread c.in-Ok-CutOff.choice (inr is)

pub returns-in-Ok-State-clause-written : goal.returns-in-Ok-State-clause-written
returns-in-Ok-State-clause-written g c =
    let so = c.loop-before.invariant.so in
    let is : c.next_name.result ≡ Ok next.State = cc in
    let start = g.K.Sink.written c.args.output.now in
    ended-so so.0 next.State None start (g.K.Sink.written c.end.new.output) c.result_of.result c.end.result c.result_of.ensures.ok c.result_of.ensures.value
    (c.end.ensures.ended start so.0 so.1.1) so.1.0 (c.next_name.ensures.last next.State is (λ choice e. cc) _) (append-nil so.0) refl

pub returns-in-Ok-NotATrace-clause-written : goal.returns-in-Ok-NotATrace-clause-written
returns-in-Ok-NotATrace-clause-written g c =
    let so = c.loop-before.invariant.so in
    let is : c.next_name.result ≡ Ok next.NotATrace = cc in
    let start = g.K.Sink.written c.args.output.now in
    ended-so so.0 next.NotATrace (Some (c.loop-before.before + 1)) start (g.K.Sink.written c.end-in-Ok-NotATrace.new.output)
    c.result_of-in-Ok-NotATrace.result c.end-in-Ok-NotATrace.result c.result_of-in-Ok-NotATrace.ensures.ok c.result_of-in-Ok-NotATrace.ensures.value
    (c.end-in-Ok-NotATrace.ensures.ended start so.0 so.1.1) so.1.0 (c.next_name.ensures.last next.NotATrace is (λ choice e. cc) _)
    (append-nil so.0) refl

pub returns-in-Ok-CutOff-clause-written : goal.returns-in-Ok-CutOff-clause-written
returns-in-Ok-CutOff-clause-written g c =
    let so = c.loop-before.invariant.so in
    let all = so.0 ++ c.in-Ok-CutOff.choice ∷ [] in
    let number : c.loop-before.before + 1 + 1 ≡ c.loop-before.before + 2 = omega arith in
    let is : c.next_name.result ≡ Ok (next.CutOff c.in-Ok-CutOff.choice) = cc in
    let start = g.K.Sink.written c.args.output.now in
    ended-so all (next.CutOff c.in-Ok-CutOff.choice) (Some (c.loop-before.before + 2)) start (g.K.Sink.written c.end-in-Ok-CutOff.new.output)
    c.result_of-in-Ok-CutOff.result c.end-in-Ok-CutOff.result c.result_of-in-Ok-CutOff.ensures.ok c.result_of-in-Ok-CutOff.ensures.value
    (c.end-in-Ok-CutOff.ensures.ended start all (c.in-Ok-take-2.ensures.taken start so.0 so.1.1)) so.1.0
    (c.next_name.ensures.last (next.CutOff c.in-Ok-CutOff.choice) is (λ choice e. cc) _) refl (ap Some number)

pub returns-in-Err-clause-part : goal.returns-in-Err-clause-part
returns-in-Err-clause-part g c = λ _.
    let so = c.loop-before.invariant.so in
    written-part c.next_name.new.lines (g.S.Source.left c.next_name.new.trace) (g.K.Sink.written c.args.output.now)
    (g.K.Sink.written c.loop-before.output) c.loop-before.last so.1.0 c.in-Err.ensures.kept so.1.1

pub returns-in-Err-clause-read : goal.returns-in-Err-clause-read
returns-in-Err-clause-read g c = λ _.
    or_else c.in-Err.ensures.failed (λ p.
    taken-on c.next_name.new.lines (g.S.Source.left c.next_name.new.trace) c.loop-before.invariant.so.1.0 p.1 p.0)

pub loop-before-preserved : goal.loop-before-preserved
loop-before-preserved g c =
    let so = c.loop-before.invariant.so in
    let choice = c.in-Ok-Made.choice in
    let is : c.next_name.result ≡ Ok (next.Made choice) = cc in
    record {
      so = (
        so.0 ++ choice ∷ [],
        (
          taken-more so.1.0 (c.next_name.ensures.made choice is (c.loop-before.before + 1)),
          c.in-Ok-take.ensures.taken (g.K.Sink.written c.args.output.now) so.0 so.1.1,
        ),
      );
      few = c.in-Ok-take.ensures.few;
    }

pub returns-clause-part : goal.returns-clause-part
returns-clause-part g c = λ _.
    let so = c.loop-before.invariant.so in
    let left = g.S.Source.left c.loop-before.trace in
    written-part c.loop-before.lines left (g.K.Sink.written c.args.output.now) (g.K.Sink.written c.loop-before.output) c.loop-before.last so.1.0
    (Consumes-nil (prepend_known c.loop-before.lines.held left)) so.1.1

pub returns-clause-read : goal.returns-clause-read
returns-clause-read g c = λ _.
    inr (taken-lines c.loop-before.invariant.so.1.0 (omega (arith, c.loop-before-test.false)))
