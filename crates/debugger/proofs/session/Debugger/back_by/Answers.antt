use Rattle.std.proofs.Common.{◌≡◌, ◌∙◌, ◌-◌, List, ap, arith, length, refl, subst, sym, take}
use Rattle.thread_machine.specs.World.{StoredWorld}
use Rattle.debugger.specs.{Moves.backs, Session.IsHistory, Session.Session}
use Rattle.debugger.proofs.{Moves.backs_length, Moves.history_backs, Trails.past_length}
use Rattle.debugger.proofs.session.Debugger.back_by.Goals as goal

pub returns-then-len-count-clause-none : goal.returns-then-len-count-clause-none
returns-then-len-count-clause-none c =
    let kept = ap (λ (s : Session). length s.past) (sym c.self.view_is) ∙ past_length c.self.inside.played c.self.inside.undos.notes ∙ sym c.len.ensures in
    ((λ _. omega (arith, kept, c.if-len-count.true)), λ _. refl)

pub unreachable-requires : goal.unreachable-requires
unreachable-requires c =
    let kept = ap (λ (s : Session). length s.past) (sym c.self.view_is) ∙ past_length c.self.inside.played c.self.inside.undos.notes ∙ sym c.len.ensures in
    let none = ap (λ (past : List StoredWorld). length past) (c.in-Err.ensures.none.0 refl) in
    let now = ap (λ (s : Session). length s.past) c.loop-done.invariant in
    omega (arith, kept, none, now, backs_length c.loop-done._done c.args.self.now, c.if-len-count.false, c.loop-done-test.true)

pub returns-clause-none : goal.returns-clause-none
returns-clause-none c =
    let kept = ap (λ (s : Session). length s.past) (sym c.self.view_is) ∙ past_length c.self.inside.played c.self.inside.undos.notes ∙ sym c.len.ensures in
    ((λ is. absurd (cc is)), λ few. absurd (omega (arith, few, kept, c.if-len-count.false)))

pub returns-clause-history : goal.returns-clause-history
returns-clause-history c = λ first choices history.
    let old = c.args.self.now in
    let kept = ap (λ (s : Session). length s.past) (sym c.self.view_is) ∙ past_length c.self.inside.played c.self.inside.undos.notes ∙ sym c.len.ensures in
    let all : c.loop-done._done ≡ c.args.count = omega (arith, c.loop-done-test.false, c.loop-done.auto._done-end) in
    subst (IsHistory first (take (length choices - c.args.count) choices)) (sym (c.loop-done.invariant ∙ ap (λ n. backs n old) all))
    (history_backs c.args.count first choices old (omega (arith, kept, c.if-len-count.false)) history)
