use Rattle.std.proofs.Common.{◌≡◌, ◌≤◌, ◌+◌, ◌*◌, ◌++◌, length, drop}
use Rattle.line_reader.specs.Listing.{operand_words, spaced}
use Rattle.line_reader.proofs.listing.rows.put_operands.Given as goal

abbrev pub invariant-loop-kind : goal.invariant-loop-kind
invariant-loop-kind l = record {
  within : l.next ≤ length l.registers;
  text : l.line ++ spaced (operand_words (drop l.kind-index l.kinds) (drop l.next l.registers) l.imm)
      ≡ l.initial.line ++ spaced (operand_words l.kinds l.registers l.imm);
  length : length l.line ≤ length l.initial.line + 13 * l.kind-index;
}
