use Rattle.std.proofs.Common.{ap, arith, sym, subst}
use Rattle.machine_scene.specs.{Scene.Scene, Scene.StoredScene, Scene.scene_of, Outcomes.outcome_of, ReadySet.AreReady}
use Rattle.machine_scene.specs.Played.{IsPlayed}
use Rattle.machine_scene.proofs.CommonTurns.{AfterCommon, turn_kept, apart_kept, local_kept, beside_kept, waits_kept}
use Rattle.machine_scene.proofs.Undoing.{turn_played, played_still}
use Rattle.machine_scene.proofs.stage.Stage.common_turn.Goals as goal

-- the turn, before the sets are kept
played : (c : goal.After-settle-arg-1) → IsPlayed (outcome_of c.args.t c.args.program.now (scene_of c.args.self.now)) c.args.t c.args.program.now
    c.args.self.now c.common_by_status.new.self c.in-Some.event
played c =
    turn_played c.row_of-row.result c.args.program.now c.args.t c.args.self.now c.common_by_status.new.self c.in-Some.event
    c.row_of-row.ensures.row c.requires.sound c.requires.thread c.phasers_are_stored.ensures c.in-Some.ensures.ok c.in-Some.ensures.phasers

after : (c : goal.After-settle-arg-1) → AfterCommon c.args.program.now c.row_of-row.result c.args.t c.args.self.now c.common_by_status.new.self c.in-Some.event
after c = grind arith

pub settle-requires-clause-sound : goal.settle-requires-clause-sound
settle-requires-clause-sound c = (played c).sound 2147483646 (omega arith) c.requires.sound

pub settle-requires-clause-thread : goal.settle-requires-clause-thread
settle-requires-clause-thread c =
    let many = (played c).threads in
    let there = c.requires.thread in
    omega (arith, many, there)

pub settle-requires-clause-turn : goal.settle-requires-clause-turn
settle-requires-clause-turn c = turn_kept _ _ _ _ _ _ (after c) c.requires.known

pub settle-requires-clause-apart : goal.settle-requires-clause-apart
settle-requires-clause-apart c = apart_kept _ _ _ _ _ _ (after c) c.requires.known

pub settle-requires-clause-local : goal.settle-requires-clause-local
settle-requires-clause-local c = local_kept _ _ _ _ _ _ (after c)

pub settle-requires-clause-beside : goal.settle-requires-clause-beside
settle-requires-clause-beside c = beside_kept _ _ _ _ _ _ (after c) c.requires.known

pub settle-requires-clause-waits : goal.settle-requires-clause-waits
settle-requires-clause-waits c = waits_kept _ _ _ _ _ _ (after c)

pub returns-in-Some-clause-ok : goal.returns-in-Some-clause-ok
returns-in-Some-clause-ok c =
    let mid = c.common_by_status.new.self in
    let outcome = outcome_of c.args.t c.args.program.now (scene_of c.args.self.now) in
    subst (λ (s : StoredScene). IsPlayed outcome c.args.t c.args.program.now c.args.self.now s c.in-Some.event) (sym c.settle.ensures.stored)
    (played_still outcome c.args.t c.args.program.now c.args.self.now mid c.settle.new.self.ready c.in-Some.event
    (turn_played c.row_of-row.result c.args.program.now c.args.t c.args.self.now mid c.in-Some.event c.row_of-row.ensures.row c.requires.sound
    c.requires.thread c.phasers_are_stored.ensures c.in-Some.ensures.ok c.in-Some.ensures.phasers))

pub returns-in-Some-clause-known : goal.returns-in-Some-clause-known
returns-in-Some-clause-known c =
    let set = c.settle.new.self.ready in
    subst (λ (scene : Scene). AreReady c.args.program.now set scene) (sym (ap (λ (s : StoredScene). scene_of s) c.settle.ensures.stored))
    c.settle.ensures.known
