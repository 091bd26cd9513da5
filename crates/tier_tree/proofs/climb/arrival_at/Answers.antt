use Rattle.std.proofs.Common.{rules, false, ◌≡◌, ◌≢◌, ◌∙◌, ◌<◌, ◌/◌, ℕ, sym, ap, subst}
use Rattle.packed_phaser.specs.{Flat.Flat, Flat.arrive, Flat.renew, Word.record_of}
use Rattle.tier_tree.proofs.{Shown.below_read, Shown.late_read, View.stands_as_it_is, View.lags}
use Rattle.tier_tree.proofs.climb.arrival_at.Goals as goal

pub returns-then-raw : goal.returns-then-raw
returns-then-raw c =
    c.arrive.ensures ∙ ap (arrive c.args.leave) (
    below_read c.args.nodes.now c.args.i c.args.top c.word-own.result c.index-nodes-i.result (record_of c.word-own.result) c.requires.stored c.requires.there
    c.index-nodes-i.is c.word-own.ensures c.requires.top
    (λ _. stands_as_it_is c.args.top c.word-own.result (ap (λ (n : ℕ). n / 4294967296) (sym c.raw.ensures) ∙ c.if-raw.true ∙ ap (λ (n : ℕ). n / 4294967296) c.raw-2.ensures)))

pub returns-else-is_terminated : goal.returns-else-is_terminated
returns-else-is_terminated c =
    let small_top : c.args.top < 18446744073709551616 = subst (λ (n : ℕ). n < 18446744073709551616) c.raw-2.ensures c.raw-2.type_inv in
    let small_own : c.word-own.result < 18446744073709551616 = subst (λ (n : ℕ). n < 18446744073709551616) c.raw.ensures c.raw.type_inv in
    let apart : c.word-own.result / 4294967296 ≢ c.args.top / 4294967296 =
    subst (λ (n : ℕ). n / 4294967296 ≢ c.args.top / 4294967296) c.raw.ensures
    (subst (λ (n : ℕ). c.raw.result / 4294967296 ≢ n / 4294967296) c.raw-2.ensures c.if-raw.false) in
    let live : (record_of c.args.top).ended ≡ false = sym c.is_terminated.ensures ∙ c.if-is_terminated.false in
    let renewed : Flat = renew (record_of c.args.top).phase (record_of c.word-own.result) in
    c.arrive_anew.ensures ∙ ap (arrive c.args.leave) (
    below_read c.args.nodes.now c.args.i c.args.top c.word-own.result c.index-nodes-i.result renewed c.requires.stored c.requires.there
    c.index-nodes-i.is c.word-own.ensures c.requires.top
    (λ own_live. lags c.args.top c.word-own.result small_top small_own live (own_live live) apart))

pub returns-then-is_terminated : goal.returns-then-is_terminated
returns-then-is_terminated c =
    let is = late_read c.args.leave c.args.nodes.now c.args.i c.args.top c.word-own.result c.index-nodes-i.result c.requires.stored c.requires.there
    c.index-nodes-i.is c.word-own.ensures c.requires.top (sym c.is_terminated.ensures ∙ c.if-is_terminated.true) in
    search (rules, is)
