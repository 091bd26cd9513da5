use Rattle.std.proofs.Common.{◌∙◌, map}
use Rattle.line_reader.specs.Seen.{name_seen}
use Rattle.line_reader.proofs.KeptRows.{row_as_read}
use Rattle.line_reader.proofs.kept_row.row_of_kinds.Goals as goal

pub returns : goal.returns
returns c =
    row_as_read c.args.opcode c.args.kinds.now (map name_seen c.args.words.now)
    c.operand_there.new.held c.operand_there-2.new.held c.operand_there-3.new.held c.operand_there-4.new.held
    c.in_ok-first.first c.in_ok-second.second c.in_ok-third.third c.in_ok-fourth.fourth
    c.requires c.in_ok-first.ensures.read c.in_ok-second.ensures.read c.in_ok-third.ensures.read c.in_ok-fourth.ensures.read
    c.in_ok-first.ensures.place c.in_ok-second.ensures.place c.in_ok-third.ensures.place
    c.operand_there-2.ensures.register c.operand_there-3.ensures.register c.operand_there-4.ensures.register
    (c.operand_there-4.ensures.opcode ∙ c.operand_there-3.ensures.opcode ∙ c.operand_there-2.ensures.opcode ∙ c.operand_there.ensures.opcode)
