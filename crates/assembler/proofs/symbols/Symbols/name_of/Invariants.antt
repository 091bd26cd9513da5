use Rattle.std.proofs.Common.{◌≡◌, drop, find}
use Rattle.assembler.specs.Symbols.{is_symbol_of}
use Rattle.assembler.proofs.symbols.Symbols.name_of.Given as goal

abbrev pub invariant-loop-index : goal.invariant-loop-index
invariant-loop-index l =
    find (is_symbol_of l.kind l.number) (drop l.index l.self.names)
    ≡ find (is_symbol_of l.kind l.number) l.self.names
