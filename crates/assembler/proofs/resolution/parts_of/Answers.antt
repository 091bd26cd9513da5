use Rattle.std.proofs.Common.{List}
use Rattle.std.specs.List.{flat_map}
use Rattle.row_code.specs.{declared.phasers.DeclaredPhaser.DeclaredPhaser, Phasers.IsPhaser}
use Rattle.line_reader.specs.{declared.statement.Line.Line, Symbols.Name}
use Rattle.assembler.specs.{Meaning.phasers_in, KeptLine.line_kept}
use Rattle.assembler.proofs.RestOfLines.{next_has}
use Rattle.assembler.proofs.resolution.parts_of.Goals as goal

pub add-requires : goal.add-requires
add-requires c =
    let added : Line Name → List DeclaredPhaser = λ line. phasers_in c.args.draft.now line.statement in
    rw c.line-item.is
    (next_has IsPhaser added line_kept c.args.lines.now c.loop-line.line-index _ c.loop-line.parts.phasers (flat_map added c.args.draft.now)
    c.loop-line-test.true c.loop-line.invariant.phasers c.requires.fits.phasers.1)
