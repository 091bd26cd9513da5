use Rattle.std.proofs.Common.{sym, subst, ap, ◌≡◌, ◌∙◌, ℕ, ◌<◌, length, All}
use Rattle.std.proofs.lemmas.List.Elements.{All-head}
use Rattle.tier_tree.specs.Stored.{ChangedOnly}
use Rattle.tier_tree.proofs.Shown.{only_more, only_same}
use Rattle.tier_tree.proofs.join.+join_along.Goals.{then-is_empty, else-is_empty}
use Rattle.tier_tree.proofs.join.+join_along.Goals as goal

pub returns-clause-only : goal.returns-clause-only
returns-clause-only t c =
    only_more c.args.line.now c.in-Some.above.now _ c.args.nodes.now c.if-is_empty.nodes c.join_at.new.nodes c.in-Some.ensures.cases.0
    (elim c.if-is_empty.branch as (λ _. ChangedOnly c.in-Some.above.now c.args.nodes.now c.if-is_empty.nodes) [
      | then-is_empty w ↦ subst (ChangedOnly c.in-Some.above.now c.args.nodes.now) (sym w.nodes-is) w.join_along.ensures.only
      | else-is_empty w ↦ subst (ChangedOnly c.in-Some.above.now c.args.nodes.now) (sym w.nodes-is) (only_same c.in-Some.above.now c.args.nodes.now)
    ])
    c.join_at.ensures.only

pub join_at-requires-clause-there : goal.join_at-requires-clause-there
join_at-requires-clause-there t c =
    let many : length c.if-is_empty.nodes ≡ length c.args.nodes.now =
    elim c.if-is_empty.branch as (λ _. length c.if-is_empty.nodes ≡ length c.args.nodes.now) [
      | then-is_empty w ↦ ap length w.nodes-is ∙ w.join_along.ensures.only.many
      | else-is_empty w ↦ ap length w.nodes-is
    ] in
    subst (λ (n : ℕ). c.in-Some.id.now < n) (sym many)
    (All-head (λ (n : ℕ). n < length c.args.nodes.now) c.in-Some.id.now c.in-Some.above.now
    (subst (All (λ (n : ℕ). n < length c.args.nodes.now)) c.in-Some.ensures.cases.0 c.requires.there))
