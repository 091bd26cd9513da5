use Rattle.std.proofs.Common.{◌≡◌, ◌∙◌, ap, sym}
use Rattle.thread_machine.specs.{World.StoredWorld, World.world_of, Step.Played, Step.played, Step.refusal_of}
use Rattle.debugger.specs.Session.{Session}
use Rattle.debugger.proofs.{Trails.trail_on, Trails.session_on, Histories.history_on}
use Rattle.debugger.proofs.session.Debugger.step.Goals as goal

pub invariant_of-self-2 : goal.invariant_of-self-2
invariant_of-self-2 c =
    trail_on c.self.inside.played c.play.new.machine c.in-Ok.ensures.step.0 c.self.inside.undos c.play.new.self
    c.in-Ok.ensures.step.1.1 c.in-Ok.ensures.step.1.0.undo c.in-Ok.ensures.step.1.0.can c.self.invariant

pub returns-clause-session : goal.returns-clause-session
returns-clause-session c =
    session_on c.self.inside.played c.play.new.machine c.in-Ok.ensures.step.0 c.self.inside.undos c.play.new.self
    c.self.inside.marks c.args.self.now c.in-Ok.ensures.step.1.1 c.in-Ok.ensures.step.1.0.undo c.self.view_is

pub returns-clause-history : goal.returns-clause-history
returns-clause-history c = λ first choices history.
    let seen : c.self.inside.played ≡ c.args.self.now.machine = ap (λ (s : Session). s.machine) c.self.view_is in
    history_on first choices c.args.choice c.args.self.now _ history (record {
      accepted = ap (λ (w : StoredWorld). refusal_of (world_of w) c.args.choice) (sym seen) ∙ c.in-Ok.ensures.step.1.0.accepted;
      world = ap (λ (play : Played). play.world) c.in-Ok.ensures.step.1.0.played
          ∙ ap (λ (w : StoredWorld). (played (world_of w) c.args.choice).world) seen;
      session = returns-clause-session c;
    })
