use Rattle.std.proofs.Common.{rules, ◌++◌, take, inr}
use Rattle.std.proofs.KnownBytes.{Consumes-trans}
use Rattle.workbench.proofs.input.read_all.Goals as goal

-- the bytes so far, and those of the piece that is one too many
pub returns-in_err-append-clause-read : goal.returns-in_err-append-clause-read
returns-in_err-append-clause-read g c = λ is. inr (
    let before = c.loop.bytes.items in
    let piece = take c.in_ok-count.count c.pull.new.piece in (
      before ++ piece,
      Consumes-trans _ _ _ before piece c.loop.invariant.given c.in_ok-count.ensures.bytes.0,
      search rules,
    ))
