use Rattle.std.proofs.Common.{inl, inr, ◌≡◌, ◌∙◌, ap, sym, Some}
use Rattle.instruction_table.specs.declared.row.Row.{Row}
use Rattle.machine_scene.specs.{Scene.scene_of, declared.manner.Manner.Manner, Manner.manner_of}
use Rattle.machine_scene.specs.PhaserRows.{unless_own, outcome_of_arrival, outcome_of_phaser_row}
use Rattle.machine_scene.proofs.stage.Stage.phaser_row.Goals as goal

pub returns-in-Parr-clause-outcome : goal.returns-in-Parr-clause-outcome
returns-in-Parr-clause-outcome c =
    let scene = scene_of c.args.self.now in
    let by : Manner → _ = λ m. unless_own c.in-Parr.phaser c.args.t scene (Some (outcome_of_arrival m c.in-Parr.phaser c.args.t c.args.program.now scene)) in
    let played : Row → _ = λ r. outcome_of_phaser_row r c.args.t c.args.program.now scene in
    let same : played c.args.row ≡ by (manner_of c.args.row) =
    elim c.in-Parr.is as (λ _. played c.args.row ≡ by (manner_of c.args.row)) [
      | inl arrives ↦ ap played arrives.1 ∙ sym (ap (λ (r : Row). by (manner_of r)) arrives.1)
      | inr others ↦ elim others as (λ _. played c.args.row ≡ by (manner_of c.args.row)) [
        | inl leaves ↦ ap played leaves.1 ∙ sym (ap (λ (r : Row). by (manner_of r)) leaves.1)
        | inr waits ↦ ap played waits.1 ∙ sym (ap (λ (r : Row). by (manner_of r)) waits.1)
      ]
    ] in
    same ∙ ap (λ (r : Row). by (manner_of r)) (sym c.in-Parr.row-is) ∙ sym (ap by c.manner_of.ensures) ∙ c.arrival.ensures.outcome
