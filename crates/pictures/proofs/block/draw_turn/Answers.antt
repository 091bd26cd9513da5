use Rattle.std.proofs.Common.{rules, ◌≡◌, ◌∙◌, ◌+◌, ◌++◌, List, ℕ, Some, ap}
use Rattle.thread_machine.specs.{Step.refusal_of, World.World, World.world_of, declared.fault.StepFault.TheVariants.StepLimit}
use Rattle.pictures.specs.Picture.{refused_line, written_line}
use Rattle.pictures.proofs.Drawings.{DrawsOne-played, DrawsOne-refused}
use Rattle.pictures.proofs.block.draw_turn.Goals as goal

pub returns-in_ok-push_line-in-Ok : goal.returns-in_ok-push_line-in-Ok
returns-in_ok-push_line-in-Ok c =
    let old = c.args.text.now.items in
    let width = c.args.pen.now.sheet.width in
    DrawsOne-played c.args.pen.now.sheet c.args.pen.now.symbols.now c.args.first (c.choices-number.result + 1) (world_of c.args.machine.now)
    (world_of c.step.new.self) c.args.choice c.in-Ok.event c.row_of-row.result old c.push_line.new.text.items
    c.in-Ok.ensures.accepted c.in-Ok.ensures.played (ap (λ (n : ℕ). n + 1) c.choices-number.ensures.choices) c.row_of-row.ensures
    (c.in_ok-push_line-in-Ok.ensures
    ∙ ap (λ (line : List ℕ). old ++ written_line width line) (c.as_slice.ensures.value ∙ c.in_ok-line-in-Ok.ensures))

pub returns-in_ok-push_line-in-Err-StepLimit : goal.returns-in_ok-push_line-in-Err-StepLimit
returns-in_ok-push_line-in-Err-StepLimit c =
    let old = c.args.text.now.items in
    let sheet = c.args.pen.now.sheet in
    let same : world_of c.step.new.self ≡ world_of c.args.machine.now = ap world_of c.in-Err-StepLimit.ensures.err in
    let refused : refusal_of (world_of c.args.machine.now) c.args.choice ≡ Some StepLimit = search rules in
    DrawsOne-refused sheet c.args.pen.now.symbols.now c.args.first (world_of c.args.machine.now) (world_of c.step.new.self) c.args.choice
    StepLimit old c.push_line-in-Err-StepLimit.new.text.items refused same
    (c.in_ok-push_line-in-Err-StepLimit.ensures
    ∙ ap (λ (line : List ℕ). old ++ written_line sheet.width line)
    (c.as_slice-in-Err-StepLimit.ensures.value ∙ c.in_ok-line-in-Err-StepLimit.ensures
    ∙ ap (λ (world : World). refused_line sheet c.args.first world c.args.choice StepLimit) same))
