use Rattle.std.proofs.Common.{◌≡◌, ◌∙◌, ◌<◌, List, [], ℕ, length, refl, sym, subst, All, take}
use Rattle.std.proofs.lemmas.List.Elements.{All-replicate, All-take}
use Rattle.packed_phaser.specs.Word.{record_of}
use Rattle.tier_tree.specs.{Ascent.IsOfPhase, Forest.flat_at, Forest.root_at, Stored.ChangedOnly, Stored.phasers_of}
use Rattle.tier_tree.proofs.{Ascent.one_top, Ascent.live_line, Ascent.of_phase_line, Ascent.only_take, Changed.restored_line}
use Rattle.tier_tree.proofs.Shown.{live_top}
use Rattle.tier_tree.proofs.climb.ascend.Goals as goal

pub look-ascent-requires-clause-live : goal.look-ascent-requires-clause-live
look-ascent-requires-clause-live g c =
    live_top c.args.nodes.now c.args.i c.top_at-top.result (flat_at (phasers_of c.args.nodes.now) c.args.i) c.requires.there c.top_at-top.ensures
    refl c.requires.live

pub look-ascent-requires-clause-before : goal.look-ascent-requires-clause-before
look-ascent-requires-clause-before g c =
    All-replicate (IsOfPhase (record_of c.top_at-top.result)) 8 c.top_at-top.result (
      refl,
      live_top c.args.nodes.now c.args.i c.top_at-top.result (flat_at (phasers_of c.args.nodes.now) c.args.i) c.requires.there c.top_at-top.ensures
          refl c.requires.live,
    )

pub write-requires-clause-there : goal.write-requires-clause-there
write-requires-clause-there g c =
    All-take (λ (n : ℕ). n < length c.args.nodes.now) c.look-ascent.result.levels c.as_slice-way.result.now
    (subst (All (λ (n : ℕ). n < length c.args.nodes.now)) (sym c.as_slice-way.ensures) c.line_at-line.ensures.within)

pub write-requires-clause-live : goal.write-requires-clause-live
write-requires-clause-live g c =
    let forest = c.args.nodes.now in
    live_line forest c.as_slice-way.result.now c.look-ascent.result.levels c.top_at-top.result c.requires.stored
    (subst (All (λ (n : ℕ). n < length forest)) (sym c.as_slice-way.ensures) c.line_at-line.ensures.within)
    (one_top forest c.args.i c.top_at-top.result c.as_slice-way.result.now c.top_at-top.ensures
    (subst (All (λ (n : ℕ). root_at (phasers_of forest) n ≡ root_at (phasers_of forest) c.args.i)) (sym c.as_slice-way.ensures) c.line_at-line.ensures.tree))
    (live_top forest c.args.i c.top_at-top.result (flat_at (phasers_of forest) c.args.i) c.requires.there c.top_at-top.ensures refl c.requires.live)

pub write-requires-clause-phase : goal.write-requires-clause-phase
write-requires-clause-phase g c =
    let forest = c.args.nodes.now in
    of_phase_line forest c.as_slice-way.result.now c.look-ascent.new.words c.look-ascent.result.levels c.top_at-top.result c.requires.stored
    (subst (All (λ (n : ℕ). n < length forest)) (sym c.as_slice-way.ensures) c.line_at-line.ensures.within)
    (one_top forest c.args.i c.top_at-top.result c.as_slice-way.result.now c.top_at-top.ensures
    (subst (All (λ (n : ℕ). root_at (phasers_of forest) n ≡ root_at (phasers_of forest) c.args.i)) (sym c.as_slice-way.ensures) c.line_at-line.ensures.tree))
    (live_top forest c.args.i c.top_at-top.result (flat_at (phasers_of forest) c.args.i) c.requires.there c.top_at-top.ensures refl c.requires.live)
    c.look-ascent.ensures.phase

pub returns-in-Counted-clause-only : goal.returns-in-Counted-clause-only
returns-in-Counted-clause-only g c =
    subst (λ (l : List ℕ). ChangedOnly l c.args.nodes.now c.write.new.nodes) (c.as_slice-way.ensures ∙ c.line_at-line.ensures.stored)
    (only_take c.as_slice-way.result.now c.look-ascent.result.levels c.args.nodes.now c.write.new.nodes c.write.ensures.only)

pub returns-in-Turned-clause-only : goal.returns-in-Turned-clause-only
returns-in-Turned-clause-only g c =
    subst (λ (l : List ℕ). ChangedOnly l c.args.nodes.now c.write.new.nodes) (c.as_slice-way.ensures ∙ c.line_at-line.ensures.stored)
    (only_take c.as_slice-way.result.now c.look-ascent.result.levels c.args.nodes.now c.write.new.nodes c.write.ensures.only)

pub returns-in-Refused-clause-refused : goal.returns-in-Refused-clause-refused
returns-in-Refused-clause-refused g c = λ _.
    restored_line [] c.args.nodes.now c.write.new.nodes
    (subst (λ (n : ℕ). ChangedOnly (take n c.as_slice-way.result.now) c.args.nodes.now c.write.new.nodes) (c.look-ascent.ensures.refused c.in-Refused.is)
    c.write.ensures.only)
