use Rattle.std.proofs.Common.{rules, ◌≡◌, ◌∙◌, ◌++◌, ℕ, List, [], ap, ap₂, append_assoc, codes}
use Rattle.std.proofs.lemmas.Result.{IfOk-weaker}
use Rattle.loader.specs.Program.{row_at}
use Rattle.machine_scene.specs.Scene.{thread_at}
use Rattle.thread_machine.specs.World.{world_of}
use Rattle.pictures.specs.Picture.{awaited_text, behind_text, outlook_text, thread_caption}
use Rattle.pictures.specs.Sheet.{kept_behind}
use Rattle.pictures.proofs.closing.waiting_line.Goals as goal

-- two parts, one behind the other
two : (a b p0 p1 p2 : List ℕ) → p0 ≡ [] → p1 ≡ p0 ++ a → p2 ≡ p1 ++ b → p2 ≡ a ++ b
two a b p0 p1 p2 is0 is1 is2 = is2 ∙ ap (λ t. t ++ b) (is1 ∙ ap (λ t. t ++ a) is0)

-- three parts
three : (a b d p0 p1 p2 p3 : List ℕ) → p0 ≡ [] → p1 ≡ p0 ++ a → p2 ≡ p1 ++ b → p3 ≡ p2 ++ d → p3 ≡ a ++ (b ++ d)
three a b d p0 p1 p2 p3 is0 is1 is2 is3 = is3 ∙ ap (λ t. t ++ d) (two a b p0 p1 p2 is0 is1 is2) ∙ append_assoc a b d

pub returns : goal.returns
returns c =
    let sheet = c.args.pen.now.sheet in
    let symbols = c.args.pen.now.symbols.now in
    let world = world_of c.args.machine.now in
    let row = row_at world.program.rows (thread_at world.scene c.args.thread).pc in
    let caption = thread_caption sheet symbols c.args.thread in
    let named : c.push_name.new.text.items ≡ c.new-front.result.items ++ caption = search rules in
    let awaited : c.push_awaited.new.front.items
    ≡ c.extend_from_slice.new.self.items ++ awaited_text sheet symbols world.scene c.args.thread row =
    c.in_ok-push_awaited.ensures.front
    ∙ ap (λ r. c.extend_from_slice.new.self.items ++ awaited_text sheet symbols world.scene c.args.thread r) c.row_of-row.ensures in
    let behind : c.push_awaited.new.back.items ≡ c.new-back.result.items ++ behind_text world.scene c.args.thread row =
    c.in_ok-push_awaited.ensures.back
    ∙ ap (λ r. c.new-back.result.items ++ behind_text world.scene c.args.thread r) c.row_of-row.ensures in
    let hope : c.push_outlook.new.text.items ≡ c.push_awaited.new.back.items ++ outlook_text world c.args.thread = search rules in
    let front = c.as_slice.ensures.value ∙ three caption (codes " waits at ") (awaited_text sheet symbols world.scene c.args.thread row) _ _ _ _
    c.new-front.ensures.items named c.in_ok-extend_from_slice.ensures.items awaited in
    let back = c.as_slice-2.ensures.value ∙ two (behind_text world.scene c.args.thread row) (outlook_text world c.args.thread) _ _ _
    c.new-back.ensures.items behind hope in
    IfOk-weaker c.kept_behind.result (λ line. line.items ≡ kept_behind c.from-2.result c.as_slice.result.now c.as_slice-2.result.now)
    (λ line. line.items ≡ kept_behind sheet.width
    (caption ++ (codes " waits at " ++ awaited_text sheet symbols world.scene c.args.thread row))
    (behind_text world.scene c.args.thread row ++ outlook_text world c.args.thread))
    (λ line is. is ∙ ap (λ room. kept_behind room c.as_slice.result.now c.as_slice-2.result.now) c.from-2.ensures
    ∙ ap₂ (kept_behind sheet.width) front back) c.kept_behind.ensures
