use Rattle.std.proofs.Common.{sym, subst, arith}
use Rattle.machine_scene.specs.{Scene.StoredScene, Scene.scene_of, ReadySet.AreReady, Outcomes.outcome_of, Played.IsPlayed}
use Rattle.machine_scene.proofs.{Placed.named_still, Undoing.played_still}
use Rattle.machine_scene.proofs.stage.Stage.turn.Goals as goal

pub ready_after-self-inside-requires-clause-sound : goal.ready_after-self-inside-requires-clause-sound
ready_after-self-inside-requires-clause-sound c = c.in-Ok.ensures.ok.sound 2147483646 (omega arith) c.requires.sound

pub ready_after-self-inside-requires-clause-named : goal.ready_after-self-inside-requires-clause-named
ready_after-self-inside-requires-clause-named c =
    named_still c.args.program.now c.row_of-row.result c.args.t c.args.self.now c.play.new.self c.requires.sound c.requires.thread
    c.row_of-row.ensures.row (ready_after-self-inside-requires-clause-sound c)

pub returns-in-Ok-clause-ok : goal.returns-in-Ok-clause-ok
returns-in-Ok-clause-ok c =
    played_still _ c.args.t c.args.program.now c.args.self.now _ c.ready_after-self-inside.result c.in-Ok.event
    (subst (λ (s : StoredScene). IsPlayed (outcome_of c.args.t c.args.program.now (scene_of c.args.self.now)) c.args.t c.args.program.now c.args.self.now s c.in-Ok.event) (sym c.self-2.view_is) c.in-Ok.ensures.ok)

pub returns-in-Ok-clause-known : goal.returns-in-Ok-clause-known
returns-in-Ok-clause-known c =
    subst (λ (s : StoredScene). AreReady c.args.program.now c.ready_after-self-inside.result (scene_of s)) (sym c.self-2.view_is) c.ready_after-self-inside.ensures
