use Rattle.std.proofs.Common.{◌≡◌, ◌≢◌, ℕ, rules, ap, sym, subst, ◌∙◌, eq-eqb, ne_eqb, arith}
use Rattle.packed_phaser.specs.{Word.IsWord, Word.record_of, declared.policy.Policy.Policy}
use Rattle.shared_phaser.specs.declared.history.{Call.Call, Known.Known, Setup.Setup}
use Rattle.shared_phaser.specs.{History.Tells, History.Makes, Known.Caller, Known.Identity, Known.MakesCall, Known.SeesMore}
use Rattle.shared_phaser.specs.Rule.{effect_at}
use Rattle.shared_phaser.proofs.Plays.{loads, exchanges}
use Rattle.shared_phaser.proofs.Tries.{effect_here, opening_stays, live_stays, opens, unturned_after, told, begun, begun_at, won_is, lost_is, then_makes, then_sees}
use Rattle.shared_phaser.proofs.phaser.SharedPhaser.attempt.Goals as goal

-- the caller's phaser has the policy that the code reads
policy_here : (was : Caller) (known : Known) (self : Identity) (opening : Setup) (policy : Policy)
    → known ≡ was.known → was.known.opening ≡ self.opening → opening ≡ self.opening → opening.policy ≡ policy → known.opening.policy ≡ policy
policy_here was known self opening policy same fits is has = grind arith

-- what a try told, in the words of the call
in_words : (k k' l : Known) (c d : Call) (P : Known → Call → Known → Type 0) → k ≡ k' → c ≡ d → P k c l → P k' d l
in_words k k' l c d P same call = subst (λ (z : Known × Call). P z.0 z.1 l) (λ i. (same i, call i))

pub load-found-requires : goal.load-found-requires
load-found-requires g c = (search rules, search rules, loads _ _ _ _ g.C.Asked.call c.party.invariant.0)

pub compare_exchange-shown-requires : goal.compare_exchange-shown-requires
compare_exchange-shown-requires g c =
    let call = g.C.Asked.call in
    let load = c.load-found.ensures.2 in
    let known : c.party.inside.seat.me.0.known ≡ c.args.party.now.known = ap (λ (p : Caller). p.known) c.party.view_is in
    let policy = policy_here c.args.party.now c.party.inside.seat.me.0.known c.args.self.now _ c.self.inside.policy known
    (ap (λ (i : Identity). i.opening) c.requires.phaser) (ap (λ (i : Identity). i.opening) c.self.view_is) c.self.invariant.2 in
    let opening = opening_stays call _ _ _ _ load in
    let same : c.in-Some.word ≡ c.load-found.result = search rules in
    let raw : Makes (record_of c.raw-bits.result) c.in-Change.answer ≡ Makes (record_of c.in-Change.new) c.in-Change.answer =
    ap (λ (n : ℕ). Makes (record_of n) c.in-Change.answer) c.raw-bits.ensures in
    let makes : effect_at c.load-found.new.seat.me.0 call c.load-found.result ≡ Makes (record_of c.raw-bits.result) c.in-Change.answer =
    effect_here c.load-found.new.seat.me.0 call c.args.call c.self.inside.policy c.load-found.result c.in-Some.word _
    (ap (λ (o : Setup). o.policy) opening ∙ policy) c.requires.call same (raw ∙ c.in-Change.ensures.effect) in
    let valid : IsWord c.raw-bits.result = subst IsWord (sym c.raw-bits.ensures) (search rules) in (
      search rules,
      search rules,
      exchanges _ _ _ c.load-found.new.seat.me call c.load-found.result c.raw-bits.result c.in-Change.answer
          (live_stays call _ _ _ _ load ∙ c.party.invariant.0) makes valid
          (unturned_after _ call _ _ c.in-Change.answer makes load.finds.unturned),
    )

pub returns-in-Told-clause-tried : goal.returns-in-Told-clause-tried
returns-in-Told-clause-tried g c =
    let call = g.C.Asked.call in
    let load = c.load-found.ensures.2 in
    let known : c.party.inside.seat.me.0.known ≡ c.args.party.now.known = ap (λ (p : Caller). p.known) c.party.view_is in
    let policy = policy_here c.args.party.now c.party.inside.seat.me.0.known c.args.self.now _ c.self.inside.policy known
    (ap (λ (i : Identity). i.opening) c.requires.phaser) (ap (λ (i : Identity). i.opening) c.self.view_is) c.self.invariant.2 in
    let same : c.in-Some.word ≡ c.load-found.result = search rules in
    let tells : effect_at c.party.inside.seat.me.0 call c.load-found.result ≡ Tells c.in-Told.answer =
    effect_here c.party.inside.seat.me.0 call c.args.call c.self.inside.policy c.load-found.result c.in-Some.word _ policy c.requires.call same c.in-Told.ensures.effect in
    (in_words _ _ _ _ _ (λ k d l. MakesCall k d c.in-Told.answer l) known c.requires.call (told call _ _ _ _ load c.in-Told.answer tells), c.in-Told.ensures.suits)

pub returns-then-shown-found-clause-tried : goal.returns-then-shown-found-clause-tried
returns-then-shown-found-clause-tried g c =
    let call = g.C.Asked.call in
    let load = c.load-found.ensures.2 in
    let exchange = c.compare_exchange-shown.ensures.2 in
    let known : c.party.inside.seat.me.0.known ≡ c.args.party.now.known = ap (λ (p : Caller). p.known) c.party.view_is in
    let policy = policy_here c.args.party.now c.party.inside.seat.me.0.known c.args.self.now _ c.self.inside.policy known
    (ap (λ (i : Identity). i.opening) c.requires.phaser) (ap (λ (i : Identity). i.opening) c.self.view_is) c.self.invariant.2 in
    let opening = opening_stays call _ _ _ _ load in
    let same : c.in-Some.word ≡ c.load-found.result = search rules in
    let hit : c.compare_exchange-shown.result ≡ c.load-found.result = c.if-shown-found.true in
    let before : effect_at c.party.inside.seat.me.0 call c.load-found.result ≡ Makes (record_of c.in-Change.new) c.in-Change.answer =
    effect_here c.party.inside.seat.me.0 call c.args.call c.self.inside.policy c.load-found.result c.in-Some.word _ policy c.requires.call same c.in-Change.ensures.effect in
    let makes : effect_at c.load-found.new.seat.me.0 call c.compare_exchange-shown.result ≡ Makes (record_of c.in-Change.new) c.in-Change.answer =
    effect_here c.load-found.new.seat.me.0 call c.args.call c.self.inside.policy c.compare_exchange-shown.result c.in-Some.word _
    (ap (λ (o : Setup). o.policy) opening ∙ policy) c.requires.call (same ∙ sym hit) c.in-Change.ensures.effect in
    let won = won_is call _ _ _ _ exchange c.in-Change.answer (record_of c.in-Change.new) (eq-eqb c.compare_exchange-shown.result c.load-found.result hit) makes in
    let both = then_makes _ _ _ 0 call c.in-Change.answer (begun call _ _ _ _ load (record_of c.in-Change.new) c.in-Change.answer before) won in
    (in_words _ _ _ _ _ (λ k d l. MakesCall k d c.in-Change.answer l) known c.requires.call both, c.in-Change.ensures.suits)

pub returns-in-Some-from_raw-clause-tried : goal.returns-in-Some-from_raw-clause-tried
returns-in-Some-from_raw-clause-tried g c =
    let call = g.C.Asked.call in
    let load = c.load-found.ensures.2 in
    let exchange = c.compare_exchange-shown.ensures.2 in
    let known : c.party.inside.seat.me.0.known ≡ c.args.party.now.known = ap (λ (p : Caller). p.known) c.party.view_is in
    let policy = policy_here c.args.party.now c.party.inside.seat.me.0.known c.args.self.now _ c.self.inside.policy known
    (ap (λ (i : Identity). i.opening) c.requires.phaser) (ap (λ (i : Identity). i.opening) c.self.view_is) c.self.invariant.2 in
    let same : c.in-Some.word ≡ c.load-found.result = search rules in
    let shown : c.in-Some-from_raw.word ≡ c.compare_exchange-shown.result = search rules in
    let miss : c.compare_exchange-shown.result ≢ c.load-found.result = c.if-shown-found.false in
    let before : effect_at c.party.inside.seat.me.0 call c.load-found.result ≡ Makes (record_of c.in-Change.new) c.in-Change.answer =
    effect_here c.party.inside.seat.me.0 call c.args.call c.self.inside.policy c.load-found.result c.in-Some.word _ policy c.requires.call same c.in-Change.ensures.effect in
    let lost = lost_is call _ _ _ _ exchange c.words_of_a_live_record_are_equal.ensures (ne_eqb c.compare_exchange-shown.result c.load-found.result miss) miss
    load.finds.valid (opens _ call _ _ c.in-Change.answer before) (begun_at call _ _ _ _ load (record_of c.in-Change.new) c.in-Change.answer before) in
    let both = then_sees _ _ _ 0 1 (begun call _ _ _ _ load (record_of c.in-Change.new) c.in-Change.answer before) lost.0 in
    (subst (λ (k : Known). SeesMore k 1 c.compare_exchange-shown.new.seat.me.0.known) known both, ap record_of shown ∙ lost.1)
