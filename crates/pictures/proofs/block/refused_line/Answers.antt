use Rattle.std.proofs.Common.{◌≡◌, ◌∙◌, ◌+◌, List, ℕ, IfOk, codes, ap, subst}
use Rattle.thread_machine.specs.World.{world_of}
use Rattle.pictures.specs.{Picture.choice_line, Picture.refused_did, Picture.refused_words, Sheet.mark_room, Sheet.shortened}
use Rattle.pictures.proofs.block.refused_line.Goals as goal

pub returns : goal.returns
returns c =
    let sheet = c.args.pen.now.sheet in
    let world = world_of c.args.machine.now in
    let t = c.args.choice.thread in
    let did : c.as_slice-2.result.now ≡ refused_did sheet =
    c.as_slice-2.ensures.value ∙ c.in_ok-did.ensures
    ∙ ap (λ (room : ℕ). shortened room (codes "refused: limit")) c.column_room.ensures in
    let told : c.as_slice-3.result.now ≡ shortened (mark_room sheet) (refused_words c.args.why t) =
    c.as_slice-3.ensures.value ∙ c.in_ok-told.ensures
    ∙ ap (λ (room : ℕ). shortened room c.as_slice.result.now) c.mark_room.ensures
    ∙ ap (shortened (mark_room sheet)) (c.as_slice.ensures.value ∙ c.in_ok-words.ensures) in
    subst (λ (text : List ℕ). IfOk c.choice_line.result (λ line. line.items ≡ text))
    (ap (λ (n : ℕ). choice_line sheet c.args.first world (n + 1) t c.as_slice-2.result.now c.as_slice-3.result.now)
    c.choices.ensures.choices
    ∙ ap (λ (text : List ℕ). choice_line sheet c.args.first world (world.choices + 1) t text c.as_slice-3.result.now) did
    ∙ ap (λ (text : List ℕ). choice_line sheet c.args.first world (world.choices + 1) t (refused_did sheet) text) told)
    c.choice_line.ensures
