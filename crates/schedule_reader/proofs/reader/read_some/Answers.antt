use Rattle.std.proofs.Common.{◌≡◌, ◌∙◌, ap, arith}
use Rattle.schedule_reader.specs.declared.place.Place.TheVariants.{Between}
use Rattle.schedule_reader.proofs.Turns.{takes-turns, takes-one, takes-one_fault}
use Rattle.schedule_reader.proofs.reader.read_some.Goals.{in-Between, in_default, then-matches+else-count-gt0, else-matches}
use Rattle.schedule_reader.proofs.reader.read_some.Goals as goal

pub returns-then-count-gt0-clause-takes : goal.returns-then-count-gt0-clause-takes
returns-then-count-gt0-clause-takes c =
    let here : c.args.place ≡ Between = elim c.match-matches.branch [
      | in-Between w ↦ w.in-Between.is
      | in_default w ↦ absurd (cc (w.matches-is, c.if-matches.true))
    ] in
    takes-turns c.args.place c.args.at c.read_turns-count.result c.args.rest.now c.args.runs.now.items c.read_turns-count.new.runs.items here
    (c.read_turns-count.ensures.takes c.args.at)

pub returns-in-Ok-clause-takes : goal.returns-in-Ok-clause-takes
returns-in-Ok-clause-takes c =
    let same : c.if-matches.runs.items ≡ c.args.runs.now.items = elim c.if-matches.branch [
      | then-matches+else-count-gt0 w ↦ ap (λ runs. runs.items) (w.runs-is ∙ w.read_turns-count.ensures.none (omega (arith, w.if-count-gt0.false)))
      | else-matches w ↦ ap (λ runs. runs.items) w.runs-is
    ] in
    takes-one c.args.place c.in-Ok.next c.args.at c.args.rest.now c.args.runs.now.items c.if-matches.runs.items c.read_byte.new.runs.items
    c.requires.some same c.in-Ok.ensures.takes

pub returns-in-Err-clause-takes : goal.returns-in-Err-clause-takes
returns-in-Err-clause-takes c =
    let same : c.if-matches.runs.items ≡ c.args.runs.now.items = elim c.if-matches.branch [
      | then-matches+else-count-gt0 w ↦ ap (λ runs. runs.items) (w.runs-is ∙ w.read_turns-count.ensures.none (omega (arith, w.if-count-gt0.false)))
      | else-matches w ↦ ap (λ runs. runs.items) w.runs-is
    ] in
    takes-one_fault c.args.place c.in-Err.fault c.args.at c.args.rest.now c.args.runs.now.items c.if-matches.runs.items c.read_byte.new.runs.items
    c.requires.some same c.in-Err.ensures.takes
