use Rattle.std.proofs.Common.{subst, List}
use Rattle.tier_tree.specs.{Call.IsCall, Stored.Stored, Stored.IsStored, Stored.phasers_of, Origin.origin_after_phase_end}
use Rattle.tier_tree.proofs.{Safe.all_arrived, Calls.written_back, Calls.turned}
use Rattle.tier_tree.proofs.forest.Forest.finish_turn.Goals as goal

pub returns-clause-call : goal.returns-clause-call
returns-clause-call c =
    written_back (λ (before after : List Stored). IsCall c.args.root.0 (origin_after_phase_end c.args.root.0 (phasers_of before)) before after) c.self.inside.nodes.items c.as_mut_slice.result.now
    c.args.self.now c.end_phase.new.nodes c.self.inside.nodes.len c.as_mut_slice.ensures.value c.self.view_is c.as_mut_slice.ensures.len c.end_phase.ensures.only.many
    (turned c.self.inside.nodes.items c.as_mut_slice.result.now c.args.self.now c.end_phase.new.nodes c.args.root.0 c.args.ends c.as_mut_slice.ensures.value c.self.view_is c.self.invariant c.requires.there
    c.requires.root c.requires.live c.end_phase.ensures.present c.end_phase.ensures.only)

pub returns-clause-safe : goal.returns-clause-safe
returns-clause-safe c origin stands clean =
    all_arrived (phasers_of c.args.self.now) origin c.args.root.0 (subst IsStored c.self.view_is c.self.invariant).places stands clean c.requires.turned
