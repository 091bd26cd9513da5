use Rattle.std.proofs.Common.{rules, ◌≡◌, ◌∙◌, ◌++◌, List, ℕ, ap, sym, subst, codes, OnOk, Some}
use Rattle.thread_machine.specs.World.{world_of}
use Rattle.pictures.specs.Picture.{end_text}
use Rattle.pictures.proofs.Ends.{hope_expires, hope_ready, pushed}
use Rattle.pictures.proofs.closing.push_outlook.Goals as goal

pub returns-in-Some : goal.returns-in-Some
returns-in-Some c =
    let told = hope_ready (world_of c.args.machine.now) c.args.thread c.args.row c.thrown.result c.requires.row c.requires.waits
    c.thrown.ensures.phase c.thrown.ensures.barrier (sym c.is_ready.ensures ∙ c.if-is_ready.true)
    ∙ ap end_text c.in-Some.is in
    let spelled : OnOk c.push_value.result (c.push_value.new.text.items ≡ c.args.text.now.items ++ end_text (Some c.in-Some.code)) =
    search rules in
    subst (λ (text : List ℕ). OnOk c.push_value.result (c.push_value.new.text.items ≡ c.args.text.now.items ++ text))
    (sym told) spelled

pub returns-then-can_expire : goal.returns-then-can_expire
returns-then-can_expire c =
    let told = hope_expires (world_of c.args.machine.now) c.args.thread (sym c.is_ready.ensures ∙ c.if-is_ready.false)
    (sym c.can_expire.ensures ∙ c.if-can_expire.true) in
    subst (λ (text : List ℕ). OnOk c.extend_from_slice-then-can_expire.result
    (c.extend_from_slice-then-can_expire.new.self.items ≡ c.args.text.now.items ++ text))
    (sym told) (pushed c.extend_from_slice-then-can_expire.result c.extend_from_slice-then-can_expire.new.self.items
    c.args.text.now.items (codes ": can expire") c.extend_from_slice-then-can_expire.ensures.items)
