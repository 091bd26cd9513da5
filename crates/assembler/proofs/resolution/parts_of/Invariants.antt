use Rattle.std.proofs.Common.{◌≡◌, ◌++◌, drop, map, not, find}
use Rattle.std.specs.List.{flat_map}
use Rattle.assembler.specs.Meaning.{are_known, barriers_in, phasers_in, rows_in, threads_in}
use Rattle.assembler.specs.{Passes.first_unknown, KeptLine.line_kept}
use Rattle.assembler.proofs.resolution.parts_of.Given as goal

abbrev pub invariant-loop-line : goal.invariant-loop-line
invariant-loop-line l =
    let rest = map line_kept (drop l.line-index l.lines) in
    record {
      phasers : l.parts.phasers ++ flat_map (λ line. phasers_in l.draft line.statement) rest
          ≡ flat_map (λ line. phasers_in l.draft line.statement) l.draft;
      barriers : l.parts.barriers ++ flat_map (λ line. barriers_in l.draft line.statement) rest
          ≡ flat_map (λ line. barriers_in l.draft line.statement) l.draft;
      threads : l.parts.threads ++ flat_map (λ line. threads_in l.draft line.statement) rest
          ≡ flat_map (λ line. threads_in l.draft line.statement) l.draft;
      rows : l.parts.rows ++ flat_map (λ line. rows_in l.draft line.statement) rest
          ≡ flat_map (λ line. rows_in l.draft line.statement) l.draft;
      unknown : find (λ line. not (are_known l.draft line.statement)) rest ≡ first_unknown l.draft;
    }
