use Rattle.std.proofs.Common.{inl, inr, ◌≡◌, ◌∙◌, ap, sym, Option, Some}
use Rattle.instruction_table.specs.declared.row.Row.{Row}
use Rattle.machine_scene.specs.{declared.manner.Manner.Manner, Manner.manner_of, Scene.Outcome, Scene.scene_of}
use Rattle.machine_scene.specs.{PhaserRows.unless_own, PhaserRows.outcome_of_arrival, Outcomes.outcome_of_row}
use Rattle.machine_scene.proofs.stage.Stage.common_arrival.Goals as goal

pub returns-in-Parr-clause-ok : goal.returns-in-Parr-clause-ok
returns-in-Parr-clause-ok c =
    let scene = scene_of c.args.self.now in
    let program = c.args.program.now in
    let by : Manner → Option Outcome = λ m. unless_own c.in-Parr.phaser c.args.t scene (Some (outcome_of_arrival m c.in-Parr.phaser c.args.t program scene)) in
    let played : Row → Option Outcome = λ r. outcome_of_row r c.args.t program scene in
    let same : played c.args.row ≡ by (manner_of c.args.row) =
    elim c.in-Parr.is as (λ _. played c.args.row ≡ by (manner_of c.args.row)) [
      | inl arrives ↦ ap played arrives.1 ∙ sym (ap (λ (r : Row). by (manner_of r)) arrives.1)
      | inr waits ↦ ap played waits.1 ∙ sym (ap (λ (r : Row). by (manner_of r)) waits.1)
    ] in
    same ∙ ap (λ (r : Row). by (manner_of r)) (sym c.in-Parr.row-is) ∙ sym (ap by c.manner_of.ensures) ∙ c.arrival.ensures.outcome
