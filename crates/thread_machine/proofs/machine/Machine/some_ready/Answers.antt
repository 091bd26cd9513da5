use Rattle.std.proofs.Common.{◌≡◌, ◌∙◌, ℕ, true, false, sym, subst, rules, arith}
use Rattle.machine_scene.specs.{Scene.scene_of, Outcomes.is_ready}
use Rattle.thread_machine.specs.{World.StoredWorld, Ready.can_expire, Ready.some_ready}
use Rattle.thread_machine.proofs.Readiness.{one_more, one_ready, none_ready, ready_some, nobody_told, by_expiry, neither}
use Rattle.thread_machine.proofs.machine.Machine.some_ready.Goals as goal

pub returns-then-is_some : goal.returns-then-is_some
returns-then-is_some c =
    subst (λ (w : StoredWorld). true ≡ some_ready w.program (scene_of w.scene)) c.self.view_is
    (sym (ready_some c.self.inside.program (scene_of c.self.inside.stage) c.ready_thread.result (sym c.is_some.ensures ∙ c.if-is_some.true)
    c.ready_thread.ensures.there c.ready_thread.ensures.ready))

pub returns-then-can_expire : goal.returns-then-can_expire
returns-then-can_expire c =
    let program = c.args.self.now.program in
    let scene = scene_of c.args.self.now.scene in
    sym (one_ready program c.loop-t.t scene (search rules)
    (by_expiry (is_ready c.loop-t.t program scene) (can_expire c.loop-t.t program scene) (sym c.can_expire.ensures ∙ c.if-can_expire.true)))

pub loop-t-preserved : goal.loop-t-preserved
loop-t-preserved c =
    one_more (λ k. can_expire k c.args.self.now.program (scene_of c.args.self.now.scene)) c.loop-t.t c.loop-t.invariant
    (sym c.can_expire.ensures ∙ c.if-can_expire.false)

pub returns : goal.returns
returns c =
    let program = c.args.self.now.program in
    let scene = scene_of c.args.self.now.scene in
    let none : (k : ℕ) → is_ready k program scene ≡ false = λ k.
    subst (λ (w : StoredWorld). is_ready k w.program (scene_of w.scene) ≡ false) c.self.view_is
    (c.ready_thread.ensures.none (nobody_told c.ready_thread.result (sym c.is_some.ensures ∙ c.if-is_some.false)) k) in
    sym (none_ready program scene
    (λ k within. neither (is_ready k program scene) (can_expire k program scene) (none k) (c.loop-t.invariant k (omega (arith, within)))))
