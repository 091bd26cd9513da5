use Rattle.std.proofs.Common.{◌+◌, ℕ, sym, subst, arith, take}
use Rattle.vuthgal_c.specs.Places.{IsBehind}
use Rattle.vuthgal_c.proofs.Behind.{next_byte, next_line}
use Rattle.vuthgal_c.proofs.place.PlaceLook.behind.Goals.{then-byte-eq10, else-byte-eq10}
use Rattle.vuthgal_c.proofs.place.PlaceLook.behind.Goals as goal

-- the line and the column of one byte more
pub loop-byte-preserved : goal.loop-byte-preserved
loop-byte-preserved c =
    let file = c.args.front.now in
    let i = c.loop-byte.byte-index in
    let before = c.loop-byte.invariant in
    elim c.if-byte-eq10.branch [
      | then-byte-eq10 w ↦ (
        subst (λ (n : ℕ). IsBehind (take (i + 1) file) n c.if-byte-eq10.column) (sym w.line-is)
            (subst (λ (n : ℕ). IsBehind (take (i + 1) file) (c.loop-byte.line + 1) n) (sym w.column-is)
            (next_line file i c.loop-byte.line c.loop-byte.column c.loop-byte-test.true w.if-byte-eq10.true before.0)),
        omega (arith, w.line-is, before.1),
        omega (arith, w.column-is),
      )
      | else-byte-eq10 w ↦ (
        subst (λ (n : ℕ). IsBehind (take (i + 1) file) n c.if-byte-eq10.column) (sym w.line-is)
            (subst (λ (n : ℕ). IsBehind (take (i + 1) file) c.loop-byte.line n) (sym w.column-is)
            (next_byte file i c.loop-byte.line c.loop-byte.column c.loop-byte-test.true w.if-byte-eq10.false before.0)),
        omega (arith, w.line-is, before.1),
        omega (arith, w.column-is, before.2),
      )
    ]
