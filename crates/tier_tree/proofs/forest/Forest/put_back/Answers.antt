use Rattle.std.proofs.Common.{◌≡◌, ◌∙◌, List, subst, sym}
use Rattle.tier_tree.specs.{Answer.KeepsPlaces, Stored.Stored, Stored.IsStored, Stored.ChangedAt, Stored.phasers_of}
use Rattle.tier_tree.proofs.{Changed.restored_call, Calls.written_back, Calls.written_many, Calls.written_places}
use Rattle.tier_tree.proofs.forest.Forest.put_back.Goals as goal

pub returns-clause-undone : goal.returns-clause-undone
returns-clause-undone c id before kept changed =
    written_back (λ (old new : List Stored). ChangedAt id before old → new ≡ before) c.self.inside.nodes.items c.as_mut_slice.result.now
    c.args.self.now c.put_back_all.new.nodes c.self.inside.nodes.len c.as_mut_slice.ensures.value c.self.view_is c.as_mut_slice.ensures.len
    (written_many c.args.saved.now c.as_mut_slice.result.now c.put_back_all.new.nodes c.put_back_all.ensures)
    (λ moved. restored_call id before c.as_mut_slice.result.now c.put_back_all.new.nodes c.args.saved.now c.put_back_all.ensures kept moved)
    changed

pub returns-clause-places : goal.returns-clause-places
returns-clause-places c =
    written_back (λ (before after : List Stored). KeepsPlaces (phasers_of before) (phasers_of after)) c.self.inside.nodes.items c.as_mut_slice.result.now
    c.args.self.now c.put_back_all.new.nodes c.self.inside.nodes.len c.as_mut_slice.ensures.value c.self.view_is c.as_mut_slice.ensures.len
    (written_many c.args.saved.now c.as_mut_slice.result.now c.put_back_all.new.nodes c.put_back_all.ensures)
    (written_places c.args.saved.now c.as_mut_slice.result.now c.put_back_all.new.nodes c.put_back_all.ensures)

pub invariant_of-self : goal.invariant_of-self
invariant_of-self c =
    let given = c.as_mut_slice.result.now in
    let moved = subst (λ (now : List Stored). ChangedAt c.requires.id c.requires.before now) (sym (c.as_mut_slice.ensures.value ∙ c.self.view_is)) c.requires.changed in
    let back : c.put_back_all.new.nodes ≡ c.requires.before =
    restored_call c.requires.id c.requires.before given c.put_back_all.new.nodes c.args.saved.now c.put_back_all.ensures c.requires.kept moved in
    written_back (λ (before after : List Stored). IsStored after) c.self.inside.nodes.items given
    c.args.self.now c.put_back_all.new.nodes c.self.inside.nodes.len c.as_mut_slice.ensures.value c.self.view_is c.as_mut_slice.ensures.len
    (written_many c.args.saved.now given c.put_back_all.new.nodes c.put_back_all.ensures)
    (subst IsStored (sym back) c.requires.forest)
