use Rattle.std.proofs.Common.{◌∙◌, sym}
use Rattle.machine_scene.specs.Scene.{scene_of, thread_at}
use Rattle.machine_scene.proofs.{LocalTurns.is_local, LocalTurns.local_turn, Reaches.within_same}
use Rattle.machine_scene.proofs.stage.Stage.common_by_status.Goals as goal

pub local_row-requires-clause-local : goal.local_row-requires-clause-local
local_row-requires-clause-local c =
    is_local (thread_at (scene_of c.args.self.now) c.args.t).status c.args.row (sym c.is_local_turn.ensures ∙ c.if-is_local_turn.true)

pub returns-then-is_local_turn-clause-ok : goal.returns-then-is_local_turn-clause-ok
returns-then-is_local_turn-clause-ok c =
    local_turn (thread_at (scene_of c.args.self.now) c.args.t).status c.args.row c.args.t c.args.program.now (scene_of c.args.self.now)
    (sym c.is_local_turn.ensures ∙ c.if-is_local_turn.true) ∙ c.local_row.ensures.outcome

pub returns-then-is_local_turn-clause-phasers : goal.returns-then-is_local_turn-clause-phasers
returns-then-is_local_turn-clause-phasers c = within_same _ _ _ c.local_row.ensures.phasers
