use Rattle.std.proofs.Common.{◌∙◌, ◌++◌, ap, arith, append-nil}
use Rattle.std.proofs.lemmas.{Fmt.length-decimal-le, List.drop_all}
use Rattle.std.specs.Fmt.{decimal}
use Rattle.debugger.proofs.number_line.put_number_line.Goals as goal

pub write_digits-middle-requires : goal.write_digits-middle-requires
write_digits-middle-requires c =
    let few = length-decimal-le 20 c.args.number (omega arith) (omega (arith, c.ranges.number.fits)) c.ranges.number.fits in
    (omega (arith, few, c.put_before-last.ensures.place, c.requires), omega (arith, c.put_before-last.ensures.place, c.put_before-last.array_long))

pub put_before-requires-clause-room : goal.put_before-requires-clause-room
put_before-requires-clause-room c =
    let few = length-decimal-le 20 c.args.number (omega arith) (omega (arith, c.ranges.number.fits)) c.ranges.number.fits in
    omega (arith, few, c.put_before-last.ensures.place, c.write_digits-middle.ensures.start, c.requires)

pub returns-clause-text : goal.returns-clause-text
returns-clause-text c =
    let nothing = drop_all 40 c.args.bytes.now (omega (arith, c.fits-bytes)) in
    c.put_before.ensures.text
    ∙ ap (λ line. c.args.word.now ++ line) (c.write_digits-middle.ensures.written
    ∙ ap (λ line. decimal c.args.number ++ line) (c.put_before-last.ensures.text
    ∙ ap (λ line. c.args.end.now ++ line) nothing ∙ append-nil c.args.end.now))
