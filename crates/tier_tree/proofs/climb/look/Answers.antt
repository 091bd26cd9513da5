use Rattle.std.proofs.Common.{inl, inr, ◌≡◌, ◌∙◌, ◌==◌, ℕ, Bool, get_or, if◌then◌else◌, arith, rules, false, sym, ap, subst}
use Rattle.packed_phaser.specs.{declared.word.Arrived.Arrived, Answer.arrival_of, Flat.Counts, Flat.Turns, Word.record_of}
use Rattle.tier_tree.specs.{Arrival.passed_on, Forest.flat_at, Stored.phasers_of}
use Rattle.tier_tree.proofs.Ascent.{IsRefusal, counted_there, turned_there, stays, goes_on, refused_there, refused_past, new_word, passed_late}
use Rattle.tier_tree.proofs.Times.{found}
use Rattle.tier_tree.proofs.climb.look.Goals.{then-leaves, else-leaves, then-leaves-2, else-leaves-2}
use Rattle.tier_tree.proofs.climb.look.Goals as goal

pub returns-in-Counted-clause-climbed : goal.returns-in-Counted-clause-climbed
returns-in-Counted-clause-climbed c =
    counted_there c.args.line.now c.loop-k.words c.loop-k.k c.in-Counted.word c.args.leave c.loop-k.leaves c.args.top (phasers_of c.args.nodes.now)
    c.loop-k-test.true (search rules) c.loop-k.invariant c.in-Counted.ensures

pub returns-in-Counted-clause-phase : goal.returns-in-Counted-clause-phase
returns-in-Counted-clause-phase c =
    new_word c.args.nodes.now c.args.line.now c.loop-k.words c.args.top c.loop-k.k c.in-Counted.word c.requires.stored c.requires.there
    c.requires.top c.requires.live c.loop-k-test.true
    (found c.loop-k.leaves (flat_at (phasers_of c.args.nodes.now) (get_or c.args.line.now c.loop-k.k 0)) (Counts (record_of c.in-Counted.word)) c.in-Counted.ensures).0
    c.loop-k.invariant.phase

pub returns-then-k-line-clause-climbed : goal.returns-then-k-line-clause-climbed
returns-then-k-line-clause-climbed c =
    turned_there c.args.line.now c.loop-k.words c.loop-k.k c.in-Turned.word c.args.leave c.loop-k.leaves c.args.top (phasers_of c.args.nodes.now)
    c.loop-k-test.true (search rules) c.if-k-line.true c.loop-k.invariant c.in-Turned.ensures

pub returns-then-k-line-clause-phase : goal.returns-then-k-line-clause-phase
returns-then-k-line-clause-phase c =
    new_word c.args.nodes.now c.args.line.now c.loop-k.words c.args.top c.loop-k.k c.in-Turned.word c.requires.stored c.requires.there
    c.requires.top c.requires.live c.loop-k-test.true
    (found c.loop-k.leaves (flat_at (phasers_of c.args.nodes.now) (get_or c.args.line.now c.loop-k.k 0)) (Turns (record_of c.in-Turned.word)) c.in-Turned.ensures).0
    c.loop-k.invariant.phase

pub loop-k-preserved : goal.loop-k-preserved
loop-k-preserved c =
    let phasers = phasers_of c.args.nodes.now in
    let f = flat_at phasers (get_or c.args.line.now c.loop-k.k 0) in
    let g = record_of c.in-Turned.word in
    let late = found c.loop-k.leaves f (Turns g) c.in-Turned.ensures in
    let leaves : c.if-leaves.leaves ≡ (g.parties == 0) = elim c.if-leaves.branch [
      | then-leaves w ↦ w.leaves-is ∙ ap (λ (n : ℕ). n == 0) w.parties.ensures
      | else-leaves w ↦ w.leaves-is ∙ w.if-leaves.false ∙ sym (stays f g c.loop-k.leaves c.in-Turned.ensures w.if-leaves.false)
    ] in
    let passed : record_of c.if-leaves-2.words ≡ passed_on g = elim c.if-leaves-2.branch [
      | then-leaves-2 w ↦ ap record_of w.words-is ∙ w.vacate.ensures ∙ ap (λ (b : Bool). if b then record g { turned = false } else g) (sym w.if-leaves-2.true ∙ leaves)
      | else-leaves-2 w ↦ ap record_of w.words-is ∙ ap (λ (b : Bool). if b then record g { turned = false } else g) (sym w.if-leaves-2.false ∙ leaves)
    ] in
    record {
      climbs = goes_on c.args.line.now c.loop-k.words c.loop-k.k c.if-leaves-2.words g c.args.leave c.loop-k.leaves c.if-leaves.leaves c.args.top phasers
          c.loop-k-test.true (search rules) c.if-k-line.false c.loop-k.invariant c.in-Turned.ensures leaves passed;
      phase = new_word c.args.nodes.now c.args.line.now c.loop-k.words c.args.top c.loop-k.k c.if-leaves-2.words c.requires.stored c.requires.there
          c.requires.top c.requires.live c.loop-k-test.true (passed_late g f c.if-leaves-2.words passed late.0) c.loop-k.invariant.phase;
    }

pub returns-after-loop-k-clause-climbed : goal.returns-after-loop-k-clause-climbed
returns-after-loop-k-clause-climbed c =
    refused_past c.args.line.now c.loop-k.words c.loop-k.k c.args.leave c.loop-k.leaves c.args.top (phasers_of c.args.nodes.now)
    (let past = c.loop-k-test.false in omega (arith, past)) c.loop-k.invariant

pub returns-in-Dead-clause-climbed : goal.returns-in-Dead-clause-climbed
returns-in-Dead-clause-climbed c =
    refused_there c.args.line.now c.loop-k.words c.loop-k.k c.args.leave c.loop-k.leaves c.args.top (phasers_of c.args.nodes.now)
    (arrival_of c.arrival_at.result) c.loop-k-test.true c.loop-k.invariant c.arrival_at.ensures
    (elim c.in-Dead.is as (λ _. IsRefusal (arrival_of c.arrival_at.result)) [
      | inl dead ↦ subst (λ (r : Arrived). IsRefusal (arrival_of r)) (sym dead.1) tt
      | inr missing ↦ subst (λ (r : Arrived). IsRefusal (arrival_of r)) (sym missing) tt
    ])
