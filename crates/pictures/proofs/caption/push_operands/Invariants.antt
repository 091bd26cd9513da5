use Rattle.std.proofs.Common.{◌≡◌, ◌≤◌, ◌++◌, length, drop}
use Rattle.line_reader.specs.Listing.{spaced}
use Rattle.pictures.specs.Caption.{named_operands}
use Rattle.pictures.proofs.caption.push_operands.Given as goal

abbrev pub invariant-loop-kind : goal.invariant-loop-kind
invariant-loop-kind l = record {
  within : l.next ≤ length l.registers;
  text : l.text.items ++ spaced (named_operands l.symbols (drop l.kind-index l.kinds) (drop l.next l.registers) l.imm)
      ≡ l.initial.text.items ++ spaced (named_operands l.symbols l.kinds l.registers l.imm);
}
