use Rattle.std.proofs.Common.{◌≡◌, ◌++◌, List, ℕ, sym, subst, OnOk}
use Rattle.machine_scene.specs.Scene.{scene_of}
use Rattle.pictures.proofs.Awaited.{awaited_at}
use Rattle.pictures.proofs.closing.push_awaited.Goals as goal

pub returns-in-Paaa-clause-front : goal.returns-in-Paaa-clause-front
returns-in-Paaa-clause-front c =
    subst (λ (text : List ℕ). OnOk c.push_phaser_wait.result (c.push_phaser_wait.new.front.items ≡ c.args.front.now.items ++ text))
    (sym (awaited_at c.args.pen.now.sheet c.args.pen.now.symbols.now (scene_of c.args.machine.now.scene) c.args.thread
    c.args.row c.in-Paaa.phaser c.in-Paaa.is)) c.push_phaser_wait.ensures.front
