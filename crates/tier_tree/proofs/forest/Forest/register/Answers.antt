use Rattle.std.proofs.Common.{List}
use Rattle.tier_tree.specs.{Stored.Stored, Stored.phasers_of, Answer.KeepsEnds, Call.IsCall, Origin.origin_after_registration}
use Rattle.tier_tree.proofs.Calls.{written_back, registered}
use Rattle.tier_tree.proofs.forest.Forest.register.Goals as goal

pub returns-clause-call : goal.returns-clause-call
returns-clause-call c =
    written_back (λ (before after : List Stored). IsCall c.args.id.0 (origin_after_registration c.register.result c.args.id.0 c.args.count) before after) c.self.inside.nodes.items c.as_mut_slice.result.now
    c.args.self.now c.register.new.nodes c.self.inside.nodes.len c.as_mut_slice.ensures.value c.self.view_is c.as_mut_slice.ensures.len c.register.ensures.only.many
    (registered c.self.inside.nodes.items c.as_mut_slice.result.now c.args.self.now c.register.new.nodes c.args.id.0 c.args.count c.register.result c.as_mut_slice.ensures.value c.self.view_is c.self.invariant c.requires
    c.register.ensures.answer c.register.ensures.forest c.register.ensures.only).call

pub returns-clause-ends : goal.returns-clause-ends
returns-clause-ends c =
    written_back (λ (before after : List Stored). KeepsEnds (phasers_of before) (phasers_of after)) c.self.inside.nodes.items c.as_mut_slice.result.now
    c.args.self.now c.register.new.nodes c.self.inside.nodes.len c.as_mut_slice.ensures.value c.self.view_is c.as_mut_slice.ensures.len c.register.ensures.only.many
    (registered c.self.inside.nodes.items c.as_mut_slice.result.now c.args.self.now c.register.new.nodes c.args.id.0 c.args.count c.register.result c.as_mut_slice.ensures.value c.self.view_is c.self.invariant c.requires
    c.register.ensures.answer c.register.ensures.forest c.register.ensures.only).ends
