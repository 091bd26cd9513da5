-- Callers are split off and joined again, and the phaser is closed.
use Rattle.std.proofs.Common.{◌≡◌, ◌≢◌, ◌⊎◌, ℕ, zero, suc, ◌+◌, ◌<◌, ◌≤◌, true, List, [], ◌∷◌, ◌++◌, length, set, All, refl, sym, ap, ◌∙◌, subst, inl, inr, ⊎_elim, arith, length-set, length-append}
use Rattle.std.proofs.lemmas.List.Elements.{All-append, All-cons}
use mathlib.Core.Option.{some, some-injective, some-ne-none}
use native.Mathlib.Decide.{dec_le}
use lib.ListN.{get_elem?}
use Rattle.atomic_table.specs.Table.{Splits, Joins, Final, Seen, opening}
use Rattle.atomic_table.proofs.Lists.{at_set, set_here, set_else, at_longer}
use Rattle.packed_phaser.specs.{Flat.fresh, Word.IsWord, Word.record_of}
use Rattle.shared_phaser.specs.declared.history.{Entry.Entry, Kept.Kept, Setup.Setup, View.View}
use Rattle.shared_phaser.specs.{History.calls_by, History.at_end, History.IsLegal, Known.IsWhole, Known.IsApart, Known.EndsAs}
use Rattle.shared_phaser.specs.Rule.{first_view, IsSpent, Stands, Keeps, IsKept, giving_view, given_view, receiving_view, spent_view}
use Rattle.shared_phaser.proofs.{Stories.prefix_nil, Stories.in_range, Steps.spent_apart, Steps.spent_stays}

-- what stands in a list with one more at its end
at_end_of : {A : Type 0} (l : List A) (a b : A) (j : ℕ) → get_elem? (l ++ a ∷ []) j ≡ some b → (get_elem? l j ≡ some b) ⊎ ((j ≡ length l) × (a ≡ b))
at_end_of [] a b zero e = inr (refl, some-injective a b e)
at_end_of [] a b (suc j) e = absurd (some-ne-none b (sym e))
at_end_of (x ∷ xs) a b zero e = inl e
at_end_of (x ∷ xs) a b (suc j) e = grind (arith, at_end_of xs a b j e)

module _ {A : Type 0} where
  none_of : (P : A → Type 0) → All P []
  none_of P k d h = absurd (omega arith)

-- a split keeps the rule
module _ (o : Setup) (word : ℕ) (views : List View) (log : List Entry) (id : ℕ) (v : View)
    (rule : Keeps o word views log) (at : get_elem? views id ≡ some v) (live : v.live ≡ true) (first : v.known.number ≡ 0) where
  stood : Stands o views log id v
  stood = rule.stands id v at live

  is_first : v ≡ rule.one.0
  is_first = some-injective v rule.one.0 (sym (ap (get_elem? views) (sym first ∙ stood.number) ∙ at) ∙ rule.one.1)

  count : v.known.splits + 1 ≡ length views
  count = ap (λ (u : View). u.known.splits + 1) is_first ∙ rule.one.2

  cut : List View
  cut = set views id (giving_view v) ++ given_view v ∷ []

  cut_length : length cut ≡ length views + 1
  unfolding cut
  cut_length = let a = length-append (set views id (giving_view v)) (given_view v ∷ []) in let b = length-set views id (giving_view v) in omega arith

  spent_in_cut : (n : ℕ) → IsSpent views n → IsSpent cut n
  unfolding cut
  spent_in_cut n spent = let s = spent_stays views n id v (giving_view v) spent at live in
      (s.0, at_longer (set views id (giving_view v)) (given_view v ∷ []) n s.0 s.1, s.2)

  giver_stands : Stands o cut log id (giving_view v)
  giver_stands = grind (arith, stood, spent_in_cut)

  taker_stands : Stands o cut log (length views) (given_view v)
  taker_stands = grind (arith, count, stood, prefix_nil, none_of)

  other_stands : (j : ℕ) (u : View) → get_elem? views j ≡ some u → u.live ≡ true → Stands o cut log j u
  other_stands j u at' live' = let s = rule.stands j u at' live' in
      record { number = s.number; opening = s.opening; knows = s.knows; joined = λ k d h. spent_in_cut _ (s.joined k d h) }

  split_keeps : Keeps o word cut log
  unfolding cut
  split_keeps = record {
    legal = rule.legal;
    now = rule.now;
    valid = rule.valid;
    unturned = rule.unturned;
    stands = λ j u at' live'. ⊎_elim
        (λ (h : get_elem? (set views id (giving_view v)) j ≡ some u). ⊎_elim
        (λ (t : (j ≡ id) × (giving_view v ≡ u)). subst (λ (z : ℕ × View). Stands o cut log z.0 z.1) (λ i. (sym t.0 i, t.1 i)) giver_stands)
        (λ (t : (j ≢ id) × (get_elem? views j ≡ some u)). other_stands j u t.1 live')
        (at_set views id j (giving_view v) u h))
        (λ (t : (j ≡ length (set views id (giving_view v))) × (given_view v ≡ u)).
        subst (λ (z : ℕ × View). Stands o cut log z.0 z.1) (λ i. (sym (t.0 ∙ length-set views id (giving_view v)) i, t.1 i)) taker_stands)
        (at_end_of (set views id (giving_view v)) (given_view v) u j at');
    one = (
      giving_view v,
      at_longer (set views id (giving_view v)) (given_view v ∷ []) 0 (giving_view v)
          (ap (get_elem? (set views id (giving_view v))) (sym first ∙ stood.number) ∙ set_here views id (giving_view v) (in_range views id v at)),
      ap (λ n. n + 1) count ∙ sym cut_length,
    );
    later = λ n h. rule.later n (let l = cut_length in omega arith);
  }

pub splits : (o : Setup) (id : ℕ) (v : View) → v.live ≡ true → v.known.number ≡ 0 → Splits (IsKept o) id v (giving_view v) (given_view v)
unfolding cut
splits o id v live first s kept at =
    record { word = kept.word; log = kept.log; words = kept.words; keeps = split_keeps o kept.word s.views kept.log id v kept.keeps at live first }

-- a join keeps it
module _ (o : Setup) (word : ℕ) (views : List View) (log : List Entry) (id oid : ℕ) (v w : View)
    (rule : Keeps o word views log) (at : get_elem? views id ≡ some v) (live : v.live ≡ true) (first : v.known.number ≡ 0)
    (other : oid ≢ id) (at_other : get_elem? views oid ≡ some w) (live_other : w.live ≡ true) where
  here : Stands o views log id v
  here = rule.stands id v at live

  there : Stands o views log oid w
  there = rule.stands oid w at_other live_other

  abbrev both : View
  both = receiving_view v w

  abbrev glued : List View
  glued = set (set views id both) oid spent_view

  at_both : get_elem? (set views id both) oid ≡ some w
  at_both = set_else views id oid both other ∙ at_other

  glued_length : length glued ≡ length views
  glued_length = length-set (set views id both) oid spent_view ∙ length-set views id both

  spent_in_glued : (n : ℕ) → IsSpent views n → IsSpent glued n
  spent_in_glued n spent = spent_stays (set views id both) n oid w spent_view (spent_stays views n id v both spent at live) at_both live_other

  now_spent : IsSpent glued w.known.number
  now_spent = (
    spent_view,
    ap (get_elem? glued) there.number ∙ set_here (set views id both) oid spent_view (in_range (set views id both) oid w at_both),
    refl,
  )

  both_stands : Stands o glued log id both
  both_stands = record {
    number = here.number;
    opening = here.opening;
    knows = record {
      begins = here.knows.begins;
      informed = there.knows.begins;
      owns = record {
        own = here.knows.owns.own;
        kept = All-append (λ (x : Kept). calls_by x.number log ≡ x.calls) v.known.joined (record { number = w.known.number; calls = w.known.calls } ∷ w.known.joined) here.knows.owns.kept
            (All-cons (λ (x : Kept). calls_by x.number log ≡ x.calls) (record { number = w.known.number; calls = w.known.calls }) w.known.joined there.knows.owns.own there.knows.owns.kept);
        apart = All-append (λ (x : Kept). x.number ≢ v.known.number) v.known.joined (record { number = w.known.number; calls = w.known.calls } ∷ w.known.joined) here.knows.owns.apart
            (All-cons (λ (x : Kept). x.number ≢ v.known.number) (record { number = w.known.number; calls = w.known.calls }) w.known.joined
            (λ e. other (sym there.number ∙ (e ∙ here.number)))
            (λ k d h e. spent_apart views _ id v (there.joined k d h) at live (e ∙ here.number)));
      };
    };
    joined = All-append (λ (x : Kept). IsSpent glued x.number) v.known.joined (record { number = w.known.number; calls = w.known.calls } ∷ w.known.joined)
        (λ k d h. spent_in_glued _ (here.joined k d h))
        (All-cons (λ (x : Kept). IsSpent glued x.number) (record { number = w.known.number; calls = w.known.calls }) w.known.joined now_spent
        (λ k d h. spent_in_glued _ (there.joined k d h)));
  }

  rest_stands : (j : ℕ) (u : View) → get_elem? views j ≡ some u → u.live ≡ true → Stands o glued log j u
  rest_stands j u at' live' = let s = rule.stands j u at' live' in
      record { number = s.number; opening = s.opening; knows = s.knows; joined = λ k d h. spent_in_glued _ (s.joined k d h) }

  is_first_too : v ≡ rule.one.0
  is_first_too = some-injective v rule.one.0 (sym (ap (get_elem? views) (sym first ∙ here.number) ∙ at) ∙ rule.one.1)

  join_keeps : Keeps o word (set (set views id (receiving_view v w)) oid spent_view) log
  join_keeps = record {
    legal = rule.legal;
    now = rule.now;
    valid = rule.valid;
    unturned = rule.unturned;
    stands = λ j u at' live'. ⊎_elim
        (λ (t : (j ≡ oid) × (spent_view ≡ u)). absurd (cc (sym live' ∙ ap (λ (z : View). z.live) (sym t.1))))
        (λ (h : (j ≢ oid) × (get_elem? (set views id both) j ≡ some u)). ⊎_elim
        (λ (t : (j ≡ id) × (both ≡ u)). subst (λ (z : ℕ × View). Stands o glued log z.0 z.1) (λ i. (sym t.0 i, t.1 i)) both_stands)
        (λ (t : (j ≢ id) × (get_elem? views j ≡ some u)). rest_stands j u t.1 live')
        (at_set views id j both u h.1))
        (at_set (set views id both) oid j spent_view u at');
    one = (
      both,
      set_else (set views id both) oid 0 spent_view (λ e. other (sym e ∙ (sym first ∙ here.number)))
          ∙ (ap (get_elem? (set views id both)) (sym first ∙ here.number) ∙ set_here views id both (in_range views id v at)),
      ap (λ (u : View). u.known.splits + 1) is_first_too ∙ (rule.one.2 ∙ sym glued_length),
    );
    later = λ n h. rule.later n (let l = glued_length in omega arith);
  }

pub joins : (o : Setup) (id oid : ℕ) (v w : View) → v.live ≡ true → v.known.number ≡ 0 → w.live ≡ true
    → Joins (IsKept o) id v oid w (receiving_view v w) spent_view
joins o id oid v w live first live_other s kept at other at_both = grind (arith, set_else, join_keeps)

-- the phaser as it is made
pub starts : (o : Setup) (word : ℕ) → record_of word ≡ fresh o.phase o.parties → IsWord word → IsKept o (opening (word ∷ []) [] (first_view o))
starts o word now valid = record {
  word = word;
  log = [];
  words = refl;
  keeps = record {
    legal = tt;
    now = now;
    valid = valid;
    unturned = ap (λ f. f.turned) now;
    stands = λ i v at live. stands_alone i v at;
    one = (first_view o, refl, refl);
    later = λ n h. refl;
  };
}
  where
    stands_alone : (i : ℕ) (v : View) → get_elem? (first_view o ∷ []) i ≡ some v → Stands o (first_view o ∷ []) [] i v
    stands_alone zero v at = subst (Stands o (first_view o ∷ []) [] 0) (some-injective (first_view o) v at) record {
      number = refl;
      opening = refl;
      knows = record {
        begins = prefix_nil [];
        informed = prefix_nil [];
        owns = record {
          own = refl;
          kept = none_of (λ (x : Kept). calls_by x.number [] ≡ x.calls);
          apart = none_of (λ (x : Kept). x.number ≢ 0);
        };
      };
      joined = none_of (λ (x : Kept). IsSpent (first_view o ∷ []) x.number);
    }
    stands_alone (suc i) v at = absurd (some-ne-none v (sym at))

-- and as it is closed
apart_silent : (o : Setup) (word : ℕ) (views : List View) (log : List Entry) (v : View) → Keeps o word views log → v.known.number ≡ 0
    → v.known.splits + 1 ≡ length views → IsWhole v.known → (n : ℕ) → IsApart v.known n → calls_by n log ≡ []
apart_silent o word views log v rule first count whole n apart = by_place (dec_le n v.known.splits)
  where
    positive : 0 < n
    positive = let no : n ≡ 0 → ⊥ = λ e. apart.0 (e ∙ sym first) in omega arith

    by_place : Dec (n ≤ v.known.splits) → calls_by n log ≡ []
    by_place (yes d) = let x = whole n positive d in absurd (apart.1 x.0 x.1 x.2 (ap (λ (y : Kept). y.number) x.3 ∙ x.4))
    by_place (no d) = rule.later n (let c = count in omega arith)

pub ends : (o : Setup) (id : ℕ) (v : View) (words : List ℕ) (slots : List (Unit {0})) (word : ℕ) → v.live ≡ true → v.known.number ≡ 0
    → Final (Seen (IsKept o) id v) words slots → get_elem? words 0 ≡ some word → EndsAs v.known word
ends o id v words slots word live first final at =
    let s = final.0 in
    let kept = final.1.0 in
    let there : get_elem? s.views id ≡ some v = final.1.1 in
    let stood = kept.keeps.stands id v there live in
    let same : kept.word ≡ word = some-injective kept.word word (ap (λ ws. get_elem? ws 0) (sym kept.words ∙ final.2) ∙ at) in
    let at0 : get_elem? s.views 0 ≡ some v = ap (get_elem? s.views) (sym first ∙ stood.number) ∙ there in
    let is_first : v ≡ kept.keeps.one.0 = some-injective v kept.keeps.one.0 (sym at0 ∙ kept.keeps.one.1) in
    let count : v.known.splits + 1 ≡ length s.views = ap (λ (u : View). u.known.splits + 1) is_first ∙ kept.keeps.one.2 in
    let end : record_of word ≡ at_end o kept.log = ap record_of (sym same) ∙ kept.keeps.now in
    record {
      log = kept.log;
      legal = subst (λ (z : Setup). IsLegal z kept.log) (sym stood.opening) kept.keeps.legal;
      begins = stood.knows.begins;
      owns = stood.knows.owns;
      now = subst (λ (z : Setup). record_of word ≡ at_end z kept.log) (sym stood.opening) end;
      whole = apart_silent o kept.word s.views kept.log v kept.keeps first count;
    }
