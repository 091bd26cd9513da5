use Rattle.headline.proofs.Scenes.{world_left}
use Rattle.headline.proofs.machine.play.Goals as goal

pub returns-clause-played : goal.returns-clause-played
returns-clause-played c =
    world_left c.args.image 1000000000 _ _ _ c.in_ok-machine.ensures.machine.1 c.in_ok-play_all.ensures.left
