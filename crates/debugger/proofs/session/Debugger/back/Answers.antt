use Rattle.std.proofs.Common.{◌∙◌, ◌-◌, length, take, refl, ap, sym, subst}
use Rattle.debugger.specs.Session.{Session, IsHistory, back_to}
use Rattle.debugger.proofs.{Trails.past_first, Trails.session_back, Trails.can_first, Trails.past_none, Histories.history_back}
use Rattle.debugger.proofs.session.Debugger.back.Goals as goal

pub returns-in-Some-clause-history : goal.returns-in-Some-clause-history
returns-in-Some-clause-history c = λ first choices history.
    let is = session_back c.self.inside.played c.take_back.new.self c.in-Some.undo.now c.self.inside.undos c.drop_newest.new.self
    c.self.inside.marks c.args.self.now c.in-Some.ensures c.drop_newest.ensures c.take_back.ensures c.self.view_is in
    let past = ap (λ (s : Session). s.past) (sym c.self.view_is)
    ∙ past_first c.self.inside.played c.in-Some.undo.now c.self.inside.undos c.in-Some.ensures in
    subst (IsHistory first (take (length choices - 1) choices)) (sym is)
    (history_back first choices c.args.self.now _ _ past history)

pub take_back-requires : goal.take_back-requires
take_back-requires c =
    can_first c.self.inside.played c.in-Some.undo.now c.self.inside.undos.notes c.in-Some.ensures c.self.invariant

pub returns-in-None-clause-session : goal.returns-in-None-clause-session
returns-in-None-clause-session c =
    let past = past_none c.self.inside.played c.self.inside.undos c.self.inside.marks c.args.self.now c.in-None.ensures c.self.view_is in
    sym (ap (λ worlds. back_to worlds c.args.self.now) past)

pub returns-in-None-clause-none : goal.returns-in-None-clause-none
returns-in-None-clause-none c =
    let past = past_none c.self.inside.played c.self.inside.undos c.self.inside.marks c.args.self.now c.in-None.ensures c.self.view_is in
    ((λ _. past), λ _. refl)
