use Rattle.std.proofs.Common.{List}
use Rattle.tier_tree.specs.{Stored.Stored, Call.IsCall}
use Rattle.tier_tree.proofs.Calls.{written_back, forced}
use Rattle.tier_tree.proofs.forest.Forest.force.Goals as goal

pub returns-clause-call : goal.returns-clause-call
returns-clause-call c =
    written_back (λ (before after : List Stored). IsCall c.args.id.0 (λ origin. origin) before after) c.self.inside.nodes.items c.as_mut_slice.result.now
    c.args.self.now c.force_tree.new.nodes c.self.inside.nodes.len c.as_mut_slice.ensures.value c.self.view_is c.as_mut_slice.ensures.len c.force_tree.ensures.only.many
    (forced c.self.inside.nodes.items c.as_mut_slice.result.now c.args.self.now c.force_tree.new.nodes c.args.id.0 c.as_mut_slice.ensures.value c.self.view_is c.self.invariant c.requires c.force_tree.ensures.forest c.force_tree.ensures.only).call
