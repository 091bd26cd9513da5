use Rattle.std.proofs.Common.{◌≡◌, List, ◌<◌, length}
use Rattle.tier_tree.specs.{Stored.Stored, Stored.phasers_of, Forest.root_at, Call.IsCall, Origin.origin_after_arrival}
use Rattle.tier_tree.specs.Answer.{IfTurning, MakesPending, KeepsEnds}
use Rattle.tier_tree.proofs.Calls.{written_back, arrived, arrived_turning}
use Rattle.tier_tree.proofs.forest.Forest.arrive.Goals as goal

pub returns-clause-turning : goal.returns-clause-turning
returns-clause-turning c =
    written_back (λ (before after : List Stored). IfTurning c.arrive.result (λ root. (root.0 < length after) × (root.0 ≡ root_at (phasers_of before) c.args.id.0) × MakesPending root.0 (phasers_of before) (phasers_of after))) c.self.inside.nodes.items c.as_mut_slice.result.now
    c.args.self.now c.arrive.new.nodes c.self.inside.nodes.len c.as_mut_slice.ensures.value c.self.view_is c.as_mut_slice.ensures.len c.arrive.ensures.only.many
    (arrived_turning c.self.inside.nodes.items c.as_mut_slice.result.now c.args.self.now c.arrive.new.nodes c.args.id.0 c.args.leave c.arrive.result c.as_mut_slice.ensures.value c.self.view_is c.self.invariant c.requires c.arrive.ensures.only.many
    c.arrive.ensures.arrival)

pub returns-clause-call : goal.returns-clause-call
returns-clause-call c =
    written_back (λ (before after : List Stored). IsCall c.args.id.0 (origin_after_arrival c.arrive.result c.args.id.0 (root_at (phasers_of before) c.args.id.0) c.args.leave) before after) c.self.inside.nodes.items c.as_mut_slice.result.now
    c.args.self.now c.arrive.new.nodes c.self.inside.nodes.len c.as_mut_slice.ensures.value c.self.view_is c.as_mut_slice.ensures.len c.arrive.ensures.only.many
    (arrived c.self.inside.nodes.items c.as_mut_slice.result.now c.args.self.now c.arrive.new.nodes c.args.id.0 c.args.leave c.arrive.result c.as_mut_slice.ensures.value c.self.view_is c.self.invariant c.requires c.arrive.ensures.arrival
    c.arrive.ensures.only).call

pub returns-clause-ends : goal.returns-clause-ends
returns-clause-ends c =
    written_back (λ (before after : List Stored). KeepsEnds (phasers_of before) (phasers_of after)) c.self.inside.nodes.items c.as_mut_slice.result.now
    c.args.self.now c.arrive.new.nodes c.self.inside.nodes.len c.as_mut_slice.ensures.value c.self.view_is c.as_mut_slice.ensures.len c.arrive.ensures.only.many
    (arrived c.self.inside.nodes.items c.as_mut_slice.result.now c.args.self.now c.arrive.new.nodes c.args.id.0 c.args.leave c.arrive.result c.as_mut_slice.ensures.value c.self.view_is c.self.invariant c.requires c.arrive.ensures.arrival
    c.arrive.ensures.only).ends
