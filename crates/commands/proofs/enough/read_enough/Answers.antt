use Rattle.std.proofs.Common.{rules, inr, ◌++◌, take}
use Rattle.std.proofs.KnownBytes.{Consumes-trans}
use Rattle.commands.proofs.Fronts.{shows_front}
use Rattle.commands.proofs.enough.read_enough.Goals as goal

-- what was taken of the piece, behind the bytes so far
pub returns-in_err-front-clause-refused : goal.returns-in_err-front-clause-refused
returns-in_err-front-clause-refused g c =
    shows_front c.from_residual-in_err-front.result _ c.args.kind c.loop.front (take c.in_ok-count.count c.pull.new.piece) _ _
    (search rules) (Consumes-trans _ _ _ c.loop.front _ c.loop.invariant.given c.in_ok-count.ensures.bytes.0)
    c.in_err-front.ensures.refused

-- the bytes so far, and those of the piece with which they are too many
pub returns-in_err-front-clause-read : goal.returns-in_err-front-clause-read
returns-in_err-front-clause-read g c = λ is. inr (
    let given = take c.in_ok-count.count c.pull.new.piece in (
      c.loop.front ++ given,
      Consumes-trans _ _ _ c.loop.front given c.loop.invariant.given c.in_ok-count.ensures.bytes.0,
      search rules,
    ))
