use Rattle.std.proofs.Common.{None, map}
use Rattle.line_reader.specs.{Seen.name_seen, KeptRow.row_kept}
use Rattle.assembler.proofs.KeptLines.{row_follows}
use Rattle.assembler.proofs.first_pass.add_row.Goals as goal

pub push-requires : goal.push-requires
push-requires c =
    row_follows c.args.draft.now c.args.word.now (map name_seen c.args.words.now) (row_kept c.in_ok-row.row) (c.in_ok-row.ensures None)
