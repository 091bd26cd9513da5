use Rattle.std.proofs.Common.{arith, ◌≡◌, ◌∙◌, ◌++◌, List, [], ℕ, true, false, length, if◌then◌else◌, ap, sym, subst, append_assoc, codes, OnOk, nat_lt}
use Rattle.std.proofs.lemmas.List.{length-map}
use Rattle.tier_tree.specs.Stored.{phasers_of}
use Rattle.instruction_table.specs.declared.shape.OperandKind.TheVariants as kind
use Rattle.machine_scene.specs.Scene.{scene_of, thread_at}
use Rattle.pictures.specs.Picture.{arrived_above, arrived_at, has_ended, missing_for, place_name}
use Rattle.pictures.proofs.Ends.{arrived_open, behind_open}
use Rattle.pictures.proofs.closing.push_phaser_wait.Goals as goal

pub returns-clause-front : goal.returns-clause-front
returns-clause-front c =
    let sheet = c.args.pen.now.sheet in
    let symbols = c.args.pen.now.symbols.now in
    let scene = scene_of c.args.machine.now.scene in
    let p = c.args.number in
    let ended = has_ended (thread_at scene c.args.thread).status p scene in
    let name = place_name sheet symbols kind.Phaser p in
    let arrived = arrived_at sheet symbols scene.phasers p (missing_for scene.phasers p) in
    let there : nat_lt p (length scene.phasers) ≡ true =
    grind (arith, length-map, c.if-from-len.false, c.len.ensures, c.forest-forest.ensures, c.from-2.ensures) in
    let goes_on : ended ≡ false = sym c.has_ended.ensures ∙ c.if-has_ended.false in
    let named : c.push_name.new.text.items ≡ c.args.front.now.items ++ name =
    c.in_ok-push_name.ensures ∙ ap (λ (n : ℕ). c.args.front.now.items ++ place_name sheet symbols kind.Phaser n) c.from.ensures in
    let front = subst (λ stored. OnOk c.push_arrived_at.result (c.push_arrived_at.new.front.items
    ≡ c.push_name.new.text.items ++ arrived_at sheet symbols (phasers_of stored) p (missing_for (phasers_of stored) p)))
    c.forest-forest.ensures c.push_arrived_at.ensures.front in
    let same = arrived_open (nat_lt p (length scene.phasers)) ended (codes " (its phase has ended)") arrived there goes_on in
    let whole : c.push_name.new.text.items ++ arrived ≡ c.args.front.now.items ++ (name
    ++ (if nat_lt p (length scene.phasers) then (if ended then codes " (its phase has ended)" else arrived) else [])) =
    ap (λ (t : List ℕ). t ++ arrived) named ∙ append_assoc c.args.front.now.items name arrived
    ∙ ap (λ (t : List ℕ). c.args.front.now.items ++ (name ++ t)) (sym same) in
    subst (λ (text : List ℕ). OnOk c.push_arrived_at.result (c.push_arrived_at.new.front.items ≡ text)) whole front

pub returns-clause-back : goal.returns-clause-back
returns-clause-back c =
    let scene = scene_of c.args.machine.now.scene in
    let p = c.args.number in
    let ended = has_ended (thread_at scene c.args.thread).status p scene in
    let above = arrived_above scene.phasers p (missing_for scene.phasers p) in
    let there : nat_lt p (length scene.phasers) ≡ true =
    grind (arith, length-map, c.if-from-len.false, c.len.ensures, c.forest-forest.ensures, c.from-2.ensures) in
    let goes_on : ended ≡ false = sym c.has_ended.ensures ∙ c.if-has_ended.false in
    let back = subst (λ stored. OnOk c.push_arrived_at.result (c.push_arrived_at.new.back.items
    ≡ c.args.back.now.items ++ arrived_above (phasers_of stored) p (missing_for (phasers_of stored) p)))
    c.forest-forest.ensures c.push_arrived_at.ensures.back in
    subst (λ (text : List ℕ). OnOk c.push_arrived_at.result (c.push_arrived_at.new.back.items ≡ c.args.back.now.items ++ text))
    (sym (behind_open (nat_lt p (length scene.phasers)) ended above there goes_on)) back
