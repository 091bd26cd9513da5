use Rattle.tier_tree.specs.{Declaration.declared, Stored.phasers_of}
use Rattle.tier_tree.proofs.Changed.{place_is, pushed}
use Rattle.tier_tree.proofs.forest.Forest.push.Goals as goal

pub invariant_of-self-2 : goal.invariant_of-self-2
invariant_of-self-2 c =
    (pushed c.args.parent c.args.parties c.args.policy c.args.phase c.self.inside.nodes.items c.args.self.now c.push.new.self.items
    c.new_node-node.result c.self.view_is
    (place_is c.new_node-node.result (declared c.args.parent c.args.parties c.args.policy c.args.phase (phasers_of c.args.self.now))
    c.new_node-node.ensures.line c.new_node-node.ensures.policy)
    c.new_node-node.ensures.word c.new_node-node.ensures.ends c.in_ok-push.ensures.items c.requires.few c.requires.parent c.requires.fresh
    c.self.invariant).stored

pub returns-clause-ok : goal.returns-clause-ok
returns-clause-ok c =
    (pushed c.args.parent c.args.parties c.args.policy c.args.phase c.self.inside.nodes.items c.args.self.now c.push.new.self.items
    c.new_node-node.result c.self.view_is
    (place_is c.new_node-node.result (declared c.args.parent c.args.parties c.args.policy c.args.phase (phasers_of c.args.self.now))
    c.new_node-node.ensures.line c.new_node-node.ensures.policy)
    c.new_node-node.ensures.word c.new_node-node.ensures.ends c.in_ok-push.ensures.items c.requires.few c.requires.parent c.requires.fresh
    c.self.invariant).shows
