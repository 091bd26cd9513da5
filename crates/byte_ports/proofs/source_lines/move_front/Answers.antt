use Rattle.std.proofs.Common.{◌≡◌, ◌+◌, ◌-◌, take, drop, sym, ap, ◌∙◌, arith, length-drop}
use Rattle.std.proofs.lemmas.List.{drop-take, Edits.take-paste}
use lib.Seq.{paste}
use Rattle.byte_ports.proofs.source_lines.move_front.Goals as goal

pub returns-clause-front : goal.returns-clause-front
returns-clause-front c =
    let all = c.args.block.now in
    let at = c.args.at in
    let size = c.args.end - at in
    let same : size ≡ 0 + size = omega arith in
    let whole : at + size ≡ c.args.end = omega (arith, c.requires.order) in
    ap (take size) c.copy_within.ensures.after ∙ ap (λ k. take k (paste all 0 (drop at all) size)) same
    ∙ take-paste all 0 (drop at all) size (omega arith) (omega (arith, c.requires.within, length-drop at all))
    ∙ sym (drop-take at size all) ∙ ap (λ k. drop at (take k all)) whole
