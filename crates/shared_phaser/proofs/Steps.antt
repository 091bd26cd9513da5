-- A step of one caller keeps the rule.
use Rattle.std.proofs.Common.{◌≡◌, ◌≢◌, ℕ, ◌+◌, ◌<◌, ◌≤◌, true, false, List, length, set, All, sym, ap, ◌∙◌, subst, ⊎_elim, arith, length-set}
use mathlib.Core.List.{IsPrefix}
use mathlib.Core.Logic.{dite}
use mathlib.Core.Option.{some, some-injective}
use native.Mathlib.Decide.{ℕ_discrete}
use lib.ListN.{get_elem?}
use Rattle.atomic_table.proofs.Lists.{at_set, set_here, set_else}
use Rattle.packed_phaser.specs.Word.{IsWord, record_of}
use Rattle.shared_phaser.specs.declared.history.{Entry.Entry, Kept.Kept, Setup.Setup, View.View}
use Rattle.shared_phaser.specs.History.{IsLegal, at_end, calls_by}
use Rattle.shared_phaser.specs.Rule.{Knows, IsSpent, Stands, Keeps}
use Rattle.shared_phaser.proofs.Stories.{prefix_trans, in_range}

-- a spent caller isn't one that lives
pub spent_apart : (views : List View) (n id : ℕ) (v : View) → IsSpent views n → get_elem? views id ≡ some v → v.live ≡ true → n ≢ id
spent_apart views n id v spent at live e = grind arith

pub spent_stays : (views : List View) (n id : ℕ) (v w : View) → IsSpent views n → get_elem? views id ≡ some v → v.live ≡ true → IsSpent (set views id w) n
spent_stays views n id v w spent at live = grind (arith, set_else, spent_apart)

-- a history that goes on by calls of one caller alone
pub record Grown (id : ℕ) (log log' : List Entry) : Type 0 where
  pub begins : IsPrefix log log'
  pub others : (n : ℕ) → n ≢ id → calls_by n log' ≡ calls_by n log

-- the caller is the same one
pub record Same (v w : View) : Type 0 where
  pub live : w.live ≡ true
  pub number : w.known.number ≡ v.known.number
  pub opening : w.known.opening ≡ v.known.opening
  pub splits : w.known.splits ≡ v.known.splits
  pub joined : w.known.joined ≡ v.known.joined

-- what another caller knows of the longer history
knows_longer : (views : List View) (log log' : List Entry) (o : Setup) (id j : ℕ) (v u : View) → get_elem? views id ≡ some v → v.live ≡ true
    → Grown id log log' → j ≢ id → Stands o views log j u → Knows log' u
knows_longer views log log' o id j v u at live grown other stands = record {
  begins = prefix_trans u.known.seen log log' stands.knows.begins grown.begins;
  informed = prefix_trans u.told log log' stands.knows.informed grown.begins;
  owns = record {
    own = grown.others u.known.number (λ e. other (sym stands.number ∙ e)) ∙ stands.knows.owns.own;
    kept = λ k d h. grown.others _ (spent_apart views _ id v (stands.joined k d h) at live) ∙ stands.knows.owns.kept k d h;
    apart = stands.knows.owns.apart;
  };
}

pub step_keeps : (o : Setup) (word word' : ℕ) (views : List View) (log log' : List Entry) (id : ℕ) (v w : View)
    → Keeps o word views log → get_elem? views id ≡ some v → v.live ≡ true → Grown id log log' → IsLegal o log'
    → record_of word' ≡ at_end o log' → IsWord word' → (record_of word').turned ≡ false → Same v w → Knows log' w
    → Keeps o word' (set views id w) log'
step_keeps o word word' views log log' id v w keeps at live grown legal now valid unturned same knows = record {
  legal = legal;
  now = now;
  valid = valid;
  unturned = unturned;
  stands = λ j u at' live'. ⊎_elim
      (λ (t : (j ≡ id) × (w ≡ u)). subst (λ (z : View). Stands o (set views id w) log' j z) t.1 (mine j t.0))
      (λ (t : (j ≢ id) × (get_elem? views j ≡ some u)). other j u t.0 t.1 live')
      (at_set views id j w u at');
  one = dite (ℕ_discrete 0 id)
      (λ e. (w, ap (get_elem? (set views id w)) e ∙ set_here views id w inside, splits_here e))
      (λ ne. (keeps.one.0, set_else views id 0 w ne ∙ keeps.one.1, keeps.one.2 ∙ sym (length-set views id w)));
  later = λ n h. grown.others n (λ e. absurd (beyond n h e)) ∙ keeps.later n (omega (arith, length-set views id w));
}
  where
    stood : Stands o views log id v
    stood = keeps.stands id v at live

    inside : id < length views
    inside = in_range views id v at

    beyond : (n : ℕ) → length (set views id w) ≤ n → n ≡ id → ⊥
    beyond n h e = let l = length-set views id w in let i = inside in omega arith

    splits_here : 0 ≡ id → w.known.splits + 1 ≡ length (set views id w)
    splits_here e =
        let there : get_elem? views 0 ≡ some v = ap (get_elem? views) e ∙ at in
        let first : v ≡ keeps.one.0 = some-injective v keeps.one.0 (sym there ∙ keeps.one.1) in
        ap (λ n. n + 1) (same.splits ∙ ap (λ (u : View). u.known.splits) first) ∙ (keeps.one.2 ∙ sym (length-set views id w))

    mine : (j : ℕ) → j ≡ id → Stands o (set views id w) log' j w
    mine j e = record {
      number = same.number ∙ (stood.number ∙ sym e);
      opening = same.opening ∙ stood.opening;
      knows = knows;
      joined = subst (λ (xs : List Kept). All (λ (x : Kept). IsSpent (set views id w) x.number) xs) (sym same.joined)
          (λ k d h. spent_stays views _ id v w (stood.joined k d h) at live);
    }

    other : (j : ℕ) (u : View) → j ≢ id → get_elem? views j ≡ some u → u.live ≡ true → Stands o (set views id w) log' j u
    other j u ne at' live' = let s = keeps.stands j u at' live' in record {
      number = s.number;
      opening = s.opening;
      knows = knows_longer views log log' o id j v u at live grown ne s;
      joined = λ k d h. spent_stays views _ id v w (s.joined k d h) at live;
    }
