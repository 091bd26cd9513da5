use Rattle.std.proofs.Common.{◌≡◌, ◌++◌, drop, map}
use Rattle.std.specs.List.{flat_map}
use Rattle.assembler.specs.{KeptLine.line_kept, Symbols.row_line}
use Rattle.assembler.proofs.symbols.row_lines.Given as goal

abbrev pub invariant-loop-line : goal.invariant-loop-line
invariant-loop-line l =
    l.rows.items ++ flat_map row_line (map line_kept (drop l.line-index l.lines))
    ≡ flat_map row_line (map line_kept l.lines)
