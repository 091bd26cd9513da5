use Rattle.std.proofs.Common.{rules, ◌≡◌, ◌∙◌, ◌+◌, ◌≤◌, [], length, Ok, sym, ap, subst, refl, arith}
use Rattle.line_reader.specs.{declared.asm_fault.AsmFault.AsmFault, FirstLine.after_line, FirstLine.first_line, Words.lines_of}
use Rattle.assembler.specs.{Answers.FailsAt, Passes.lines_read, Passes.behind, Reading.line_behind}
use Rattle.assembler.proofs.FirstPass.{placed_word, next_line, no_lines, one_left, none_left, one_more, one_less, all_read, some_text}
use Rattle.assembler.proofs.ReadLines.{fails_then}
use Rattle.line_reader.proofs.FirstLines.{lines_first}
use Rattle.assembler.proofs.first_pass.lines_read.Goals as goal

pub loop-rest-init : goal.loop-rest-init
unfolding lines_read
loop-rest-init c = record {
  met = ap (λ x. Ok x) (sym c.new-draft.ensures);
  left = refl;
  count = omega arith;
  room = omega arith;
}

pub returns-in-Err-clause-read : goal.returns-in-Err-clause-read
returns-in-Err-clause-read c =
    let before = c.loop-rest.invariant in
    let rest = c.loop-rest.rest.now in
    let k = c.loop-rest.number in
    let draft = c.loop-rest.draft in
    let line = first_line rest in
    let more = lines_of (after_line rest) in
    let next =
    next_line (lines_of c.args.text.now) k draft line more before.met
    (sym before.left ∙ lines_first rest (some_text rest c.loop-rest-test.ensures)) in
    let fault : AsmFault = record { line = k + 1; kind = c.in-Err.fault.kind } in
    let told : FailsAt fault.kind fault (lines_read 1 [] (lines_of c.args.text.now)) =
    subst (λ r. FailsAt fault.kind fault r) (sym next)
    (fails_then fault.kind fault (behind draft (k + 1) (line_behind draft line))
    (λ lines. lines_read (k + 1 + 1) lines more) c.in-Err.ensures.read) in
    subst (λ (f : AsmFault). FailsAt f.kind f (lines_read 1 [] (lines_of c.args.text.now))) (sym c.placed.ensures.fault) told

pub returns-in-Err-clause-place : goal.returns-in-Err-clause-place
returns-in-Err-clause-place c =
    let before = c.loop-rest.invariant in
    let rest = c.loop-rest.rest.now in
    let many : c.len.result ≡ length c.read_line.new.words.items = search rules in
    placed_word c.args.text.now c.loop-rest.number c.len.result c.loop-rest.draft (first_line rest) (lines_of (after_line rest))
    c.in-Err.fault c.placed.result before.met (sym before.left ∙ lines_first rest (some_text rest c.loop-rest-test.ensures))
    c.in-Err.ensures.wrong (λ some. many ∙ c.in-Err.ensures.words some) c.placed.ensures.fault
    (λ line there. c.placed.ensures.place line (omega arith) there)

pub returns-in-Err-clause-line : goal.returns-in-Err-clause-line
returns-in-Err-clause-line c =
    let before = c.loop-rest.invariant in
    let rest = c.loop-rest.rest.now in
    let within = one_left (lines_of c.args.text.now) c.loop-rest.number (first_line rest) (lines_of (after_line rest))
    (sym before.left ∙ lines_first rest (some_text rest c.loop-rest-test.ensures)) in
    subst (λ (f : AsmFault). (1 ≤ f.line) × (f.line ≤ length (lines_of c.args.text.now))) (sym c.placed.ensures.fault)
    (omega arith, omega (arith, within))

pub loop-rest-preserved : goal.loop-rest-preserved
loop-rest-preserved c =
    let before = c.loop-rest.invariant in
    let texts = lines_of c.args.text.now in
    let k = c.loop-rest.number in
    let line = first_line c.loop-rest.rest.now in
    let more = lines_of c.in-Ok.after.now in
    let left = sym before.left ∙ c.in-Ok.ensures.lines in
    let within = one_left texts k line more left in
    record {
      met = one_more texts k c.loop-rest.draft c.read_line.new.draft line more before.met left c.in-Ok.ensures.read;
      left = sym (one_less texts k line more left);
      count = omega (arith, within);
      room = omega (arith, before.room, c.in-Ok.ensures.shorter);
    }

pub returns-clause-read : goal.returns-clause-read
returns-clause-read c =
    let before = c.loop-rest.invariant in
    all_read (lines_of c.args.text.now) c.loop-rest.number c.loop-rest.draft before.met
    (sym before.left ∙ no_lines c.loop-rest.rest.now c.loop-rest-test.ensures)

pub returns-clause-lines : goal.returns-clause-lines
returns-clause-lines c =
    let before = c.loop-rest.invariant in
    none_left (lines_of c.args.text.now) c.loop-rest.number before.count
    (sym before.left ∙ no_lines c.loop-rest.rest.now c.loop-rest-test.ensures)
