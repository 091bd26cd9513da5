use Rattle.tier_tree.specs.{Forest.phaser_at, Stored.phasers_of}
use Rattle.vuthgal_c.specs.Looks.{IsFilled, phaser_look}
use Rattle.vuthgal_c.proofs.looking.see_phasers.Given as goal

-- those so far are in the room
abbrev pub invariant-loop-phaser : goal.invariant-loop-phaser
invariant-loop-phaser l =
    IsFilled (λ p. phaser_look (phaser_at (phasers_of l.machine.scene.phasers) p)) l.phaser l.initial.room l.room
