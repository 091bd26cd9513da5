use Rattle.std.proofs.Common.{◌≡◌, ◌∙◌, ◌+◌, true, ap, sym}
use Rattle.machine_scene.specs.Scene.{thread_at}
use Rattle.thread_machine.specs.{World.StoredWorld, World.world_of, Step.Played, Step.played, Step.refusal_of}
use Rattle.debugger.specs.{Command.Step, Reply.wants_memory, Session.Session}
use Rattle.debugger.proofs.{Trails.trail_on, Trails.session_on, Goes.step_unless, Replies.event_line, Replies.stepped}
use Rattle.debugger.proofs.session.Debugger.step_command.Goals as goal

pub invariant_of-self-2 : goal.invariant_of-self-2
invariant_of-self-2 g c =
    trail_on c.self.inside.played c.play.new.machine c.in-Ok.ensures.step.0 c.self.inside.undos c.play.new.self
    c.in-Ok.ensures.step.1.1 c.in-Ok.ensures.step.1.0.undo c.in-Ok.ensures.step.1.0.can c.self.invariant

pub returns : goal.returns
returns g c =
    let choice = c.args.choice in
    let session = c.args.self.now in
    let seen : c.self.inside.played ≡ session.machine = ap (λ (s : Session). s.machine) c.self.view_is in
    let accepted = ap (λ (w : StoredWorld). refusal_of (world_of w) choice) (sym seen) ∙ c.in-Ok.ensures.step.1.0.accepted in
    let both = c.in-Ok.ensures.step.1.0.played ∙ ap (λ (w : StoredWorld). played (world_of w) choice) seen in
    stepped (wants_memory session (Step choice) ≡ true) c.say_line-2.result session _ choice c.put_event.new.line _ _ _
    (step_unless (refusal_of (world_of session.machine) choice) session _ choice accepted
    (record {
      accepted = accepted;
      world = ap (λ (play : Played). play.world) both;
      session = session_on c.self.inside.played c.play.new.machine c.in-Ok.ensures.step.0 c.self.inside.undos c.play.new.self
          c.self.inside.marks session c.in-Ok.ensures.step.1.1 c.in-Ok.ensures.step.1.0.undo c.self.view_is;
    }))
    (c.put_event.ensures
    ∙ event_line (world_of session.machine) (world_of c.play.new.machine) choice c.in-Ok.event _ _ accepted both
    (ap (λ n. n + 1) c.choices-number.ensures.choices ∙ ap (λ (w : StoredWorld). w.choices + 1) seen)
    (c.pc-pc.ensures.row ∙ ap (λ (w : StoredWorld). (thread_at (world_of w).scene choice.thread).pc) seen))
    c.say_line-2.ensures.line c.say_line-2.ensures.fault
