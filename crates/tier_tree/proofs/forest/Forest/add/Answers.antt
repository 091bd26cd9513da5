use Rattle.std.proofs.Common.{refl, ap, subst, ◌∙◌, List}
use Rattle.tier_tree.specs.{Forest.PhaserState, Registration.joined, Origin.AreTallied, Origin.declared_at, Stored.phasers_of}
use Rattle.tier_tree.specs.Declaration.{declared, joins_above, is_root}
use Rattle.tier_tree.proofs.{Added.stands_declared, Fresh.fresh_declared, Shown.length-shown, Changed.there_few}
use Rattle.tier_tree.proofs.Calls.{declared_ends, declared_places}
use Rattle.tier_tree.proofs.forest.Forest.add.Goals as goal

pub returns-clause-fresh : goal.returns-clause-fresh
returns-clause-fresh c fresh =
    fresh_declared (joins_above c.args.parent c.args.parties (phasers_of c.push.new.self)) (phasers_of c.args.self.now) (phasers_of c.push.new.self)
    (phasers_of c.join_above.new.self) (declared c.args.parent c.args.parties c.args.policy c.args.phase (phasers_of c.args.self.now))
    c.join_above.ensures.joined c.in_ok-push.ensures.ok refl fresh

pub returns-clause-origin : goal.returns-clause-origin
returns-clause-origin c origin stands =
    subst (λ n. AreTallied (phasers_of c.join_above.new.self) (declared_at n c.args.parties (is_root c.args.parent) origin)) (length-shown c.args.self.now)
    (stands_declared c.args.parent c.args.parties c.args.policy c.args.phase (phasers_of c.args.self.now) (phasers_of c.join_above.new.self) origin
    (there_few c.args.self.now c.requires.few) c.requires.parent c.is_forest.ensures.places c.requires.tree c.requires.room
    (c.join_above.ensures.joined ∙ ap (λ (ps : List PhaserState). joined (joins_above c.args.parent c.args.parties ps) ps) c.in_ok-push.ensures.ok) stands)

pub returns-clause-ends : goal.returns-clause-ends
returns-clause-ends c =
    declared_ends c.args.parent c.args.parties c.args.policy c.args.phase (phasers_of c.args.self.now) (phasers_of c.join_above.new.self)
    (c.join_above.ensures.joined ∙ ap (λ (ps : List PhaserState). joined (joins_above c.args.parent c.args.parties ps) ps) c.in_ok-push.ensures.ok)

pub returns-clause-places : goal.returns-clause-places
returns-clause-places c =
    declared_places c.args.parent c.args.parties c.args.policy c.args.phase (phasers_of c.args.self.now) (phasers_of c.join_above.new.self)
    (c.join_above.ensures.joined ∙ ap (λ (ps : List PhaserState). joined (joins_above c.args.parent c.args.parties ps) ps) c.in_ok-push.ensures.ok)
