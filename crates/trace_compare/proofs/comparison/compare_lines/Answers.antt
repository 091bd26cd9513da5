use Rattle.std.proofs.Common.{◌≡◌, ◌+◌, Ok, ap, arith}
use Rattle.std.proofs.lemmas.Grind.{common_steps}
use Rattle.trace_compare.proofs.NamedLines.{gone-lines, gone-on, or_else}
use Rattle.trace_compare.proofs.TakenLines.{come-far, come-first, come-line, come-over, come-verdict, read-behind}
use Rattle.trace_compare.proofs.comparison.compare_lines.Goals as goal

pub loop-init : goal.loop-init
loop-init g c = grind (arith, common_steps, come-first)

pub returns-in-Err-read_line-clause-read : goal.returns-in-Err-read_line-clause-read
returns-in-Err-read_line-clause-read g c = λ _.
    let own = come-over c.skip.new.self c.loop.invariant.come c.held.ensures.value c.in-Ok.ensures c.skip.ensures.held c.skip.ensures.reads in
    or_else c.in-Err-read_line.ensures.failed (λ p.
    gone-on own.bytes c.skip.new.self c.read_line.new.self (g.S.Source.left c.args.trace.now) (g.S.Source.left c.loop.trace)
    (g.S.Source.left c.read_line.new.source) own.gone (c.in-Err-read_line.ensures.bytes, p.1) p.0)

pub returns-in-Ok-Some-clause-verdict : goal.returns-in-Ok-Some-clause-verdict
returns-in-Ok-Some-clause-verdict g c =
    let own = come-over c.skip.new.self c.loop.invariant.come c.held.ensures.value c.in-Ok.ensures c.skip.ensures.held c.skip.ensures.reads in
    let judged = rw (c.line.ensures, c.in-Ok-Some.field-0-is) at c.in-Ok-Some.ensures.judged in
    come-verdict c.take_ended.new.self c.read_line.new.self (g.S.Source.left c.read_line.new.source) c.in-Ok-read_line.ended
    c.read_line.new.self.line c.in-Ok-Some.verdict own judged c.in-Ok-read_line.ensures.bytes c.in-Ok-read_line.ensures.behind
    c.in-Ok-read_line.ensures.came (λ e. c.in-Ok-read_line.ensures.all (ap Ok e))

pub returns-in-Ok-Some-clause-far : goal.returns-in-Ok-Some-clause-far
returns-in-Ok-Some-clause-far g c =
    let own = come-over c.skip.new.self c.loop.invariant.come c.held.ensures.value c.in-Ok.ensures c.skip.ensures.held c.skip.ensures.reads in
    let far =
    read-behind c.read_line.new.self (g.S.Source.left c.read_line.new.source) _ own c.in-Ok-read_line.ensures.bytes c.in-Ok-read_line.ensures.far in
    let judged = rw (c.line.ensures, c.in-Ok-Some.field-0-is) at c.in-Ok-Some.ensures.judged in
    come-far c.take_own_lines.new.self c.take_ended.new.self c.read_line.new.self (g.S.Source.left c.args.trace.now)
    (g.S.Source.left c.read_line.new.source) c.in-Ok-read_line.ended c.read_line.new.self.line c.in-Ok-Some.verdict judged far
    c.in-Ok-read_line.ensures.came (λ e. c.in-Ok-read_line.ensures.all (ap Ok e))

pub loop-preserved : goal.loop-preserved
loop-preserved g c =
    let inv = c.loop.invariant in
    let over = c.in-Ok.ensures in
    let own = come-over c.skip.new.self c.loop.invariant.come c.held.ensures.value c.in-Ok.ensures c.skip.ensures.held c.skip.ensures.reads in
    let far =
    read-behind c.read_line.new.self (g.S.Source.left c.read_line.new.source) _ own c.in-Ok-read_line.ensures.bytes c.in-Ok-read_line.ensures.far in
    let judged = rw (c.line.ensures, c.in-Ok-None.field-0-is) at c.in-Ok-None.ensures.judged in
    let next : c.take_ended.new.self.number ≡ c.take_own_lines.new.self.number + 1 = judged.1 in
    record {
      come = come-line c.in-Ok-read_line.ended c.read_line.new.self.line own c.in-Ok-read_line.ensures.one judged c.in-Ok-read_line.ensures.bytes
          c.in-Ok-read_line.ensures.given c.in-Ok-read_line.ensures.behind far;
      number = omega (arith, inv.number, over.number, over.within, c.held.ensures.few, next);
      at = c.in-Ok-None.ensures.at;
      short = c.in-Ok-None.ensures.short (ap Ok c.in-Ok-None.field-0-is);
      reads = omega (arith, inv.reads, c.read_line.ensures.reads, c.skip.ensures.reads);
      within = c.read_line.ensures.within;
      sound = λ sound. c.in-Ok-read_line.ensures.sound (inv.sound sound);
    }

pub returns-clause-read : goal.returns-clause-read
returns-clause-read g c = grind (arith, common_steps, gone-lines)
