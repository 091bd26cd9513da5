use Rattle.std.proofs.Common.{◌≡◌, ◌∙◌, ◌<◌, false, ap, refl, sym, subst, List, length, ◌&&◌}
use Rattle.tier_tree.specs.{Forest.PhaserState, Stored.Stored, Stored.phasers_of, Stored.ChangedAt}
use Rattle.tier_tree.proofs.{Shown.root_shown, Changed.changed_then_root}
use Rattle.thread_state.specs.Thread.{is_full}
use Rattle.machine_scene.specs.{Scene.Scene, Scene.StoredScene, Scene.scene_of, Scene.thread_at, PhaserRows.has_routine}
use Rattle.machine_scene.proofs.Room.{room_left}
use Rattle.machine_scene.proofs.stage.Stage.arrive.Goals as goal

pub pending_end-requires-clause-room : goal.pending_end-requires-clause-room
pending_end-requires-clause-room c none =
    let inside = c.self.inside in
    let seen : List PhaserState → Scene =
    λ phasers. record { cells = inside.cells; threads = inside.threads.items; phasers = phasers; barriers = inside.barriers.items } in
    room_left (seen (phasers_of inside.phasers)) (seen (phasers_of c.arrive.new.self)) c.args.phaser c.in-Turning.root.0 c.args.t
    (subst (λ (s : StoredScene). (has_routine c.args.phaser (scene_of s) && is_full (thread_at (scene_of s) c.args.t)) ≡ false)
    (sym c.self.view_is) c.requires.room)
    c.arrive.ensures.call.places c.in-Turning.ensures.turning.1 refl none

pub returns-in-Turning-clause-phasers : goal.returns-in-Turning-clause-phasers
returns-in-Turning-clause-phasers c =
    let before = c.self.inside.phasers in
    let after = c.pending_end.new.self.phasers in
    let there : c.args.phaser < length before =
    subst (λ (s : StoredScene). c.args.phaser < length s.phasers) (sym c.self.view_is) c.requires.phaser in
    subst (λ (phasers : List Stored). ChangedAt c.args.phaser phasers after) (ap (λ (s : StoredScene). s.phasers) c.self.view_is)
    (changed_then_root before c.arrive.new.self after c.args.phaser c.in-Turning.root.0 c.is_forest.ensures c.is_forest-in-Turning.ensures there
    (c.in-Turning.ensures.turning.1 ∙ root_shown before c.args.phaser there) c.in-Turning.ensures.call.only c.pending_end.ensures.phasers)
