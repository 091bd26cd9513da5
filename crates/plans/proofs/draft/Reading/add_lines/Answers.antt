use Rattle.std.proofs.Common.{◌≡◌, ◌∙◌, ◌+◌, ◌<◌, ◌-◌, ap, arith, drop, length, length-drop, map, sym}
use Rattle.std.proofs.lemmas.Grind.{common_steps}
use Rattle.std.specs.List.{position_or_len, slice_split}
use Rattle.line_reader.specs.{Seen.name_seen, Words.is_line_end}
use Rattle.plans.specs.{Drafts.draft_of, Plan.lines_behind, Plan.words_behind, Words.words_of}
use Rattle.plans.proofs.Behind.{next_line, last_line, faulty_line, before_end}
use Rattle.plans.proofs.draft.Reading.add_lines.Goals as goal

pub returns-in-Err : goal.returns-in-Err
returns-in-Err c = grind (arith, common_steps, faulty_line, before_end)

pub returns-then-length-rest : goal.returns-then-length-rest
returns-then-length-rest c =
    let names = map name_seen c.args.names.now in
    let said = ap (λ line. words_behind names c.loop-fault.line (draft_of c.loop-fault.self) (words_of line))
    (sym (before_end c.loop-fault.rest.now _ _ c.before-in-loop-fault.ensures c.length_before-length.ensures.length)) ∙ c.in-Ok.ensures in
    last_line names c.loop-fault.line c.loop-fault.rest.now (draft_of c.loop-fault.self) (draft_of c.add_line.new.self) _
    (sym c.length_before-length.ensures.length ∙ c.if-length-rest.true) c.loop-fault.invariant.lines said

pub loop-fault-preserved : goal.loop-fault-preserved
loop-fault-preserved c =
    let names = map name_seen c.args.names.now in
    let text = c.loop-fault.rest.now in
    let said = ap (λ line. words_behind names c.loop-fault.line (draft_of c.loop-fault.self) (words_of line))
    (sym (before_end text _ _ c.before-in-loop-fault.ensures c.length_before-length.ensures.length)) ∙ c.in-Ok.ensures in
    let within : position_or_len is_line_end text < length text =
    omega (arith, c.length_before-length.ensures.length, c.length_before-length.ensures.within, c.if-length-rest.false) in
    let long : length c.from-rest.result.now ≡ length text - (c.length_before-length.result + 1) =
    ap length c.from-rest.ensures ∙ length-drop (c.length_before-length.result + 1) text in
    record {
      few = omega (arith, long, within, c.length_before-length.ensures.length, c.loop-fault.invariant.few);
      lines = ap (λ rest. lines_behind names (c.loop-fault.line + 1) (draft_of c.add_line.new.self) (slice_split is_line_end rest))
          (c.from-rest.ensures ∙ ap (λ n. drop (n + 1) text) c.length_before-length.ensures.length)
          ∙ next_line names c.loop-fault.line text (draft_of c.loop-fault.self) (draft_of c.add_line.new.self) _ within
          c.loop-fault.invariant.lines said;
    }
