-- Each load and each exchange keeps the rule, and tells what it says.
use Rattle.std.proofs.Common.{◌≡◌, ℕ, ◌==◌, Bool, true, false, List, [], ◌∷◌, ◌++◌, set, refl, sym, ap, ◌∙◌, subst, eqb-true, arith, eq-eqb, slice_index, slice_set}
use Rattle.std.proofs.lemmas.List.Elements.{filter-append}
use mathlib.Core.Option.{none, some}
use lib.ListN.{get_elem?}
use prog.Atomic.{either}
use Rattle.atomic_table.specs.Table.{Me, step, Act, keeps, homes_after, carried_after, Valid, Allows}
use Rattle.packed_phaser.specs.Word.{IsWord, record_of}
use Rattle.shared_phaser.specs.declared.history.{Call.Call, Answer.Answer, Answer.TheVariants.Saw, Entry.Entry, Setup.Setup}
use Rattle.shared_phaser.specs.declared.history.{Known.Known, View.View}
use Rattle.shared_phaser.specs.History.{Effect, Shows, Tells, Makes, Waits, effect, Answers, after, opened, IsLegal, at_end}
use Rattle.shared_phaser.specs.Known.{Owns, entry, making, seeing}
use Rattle.shared_phaser.specs.Rule.{knowing, Knows, Keeps, IsKept, Finds, loaded, won, exchanged, effect_at, Loads, Exchanges, Watches}
use Rattle.shared_phaser.proofs.Stories.{prefix_self, prefix_nil, prefix_more, after_all-push, legal_push, calls_by-other}
use Rattle.shared_phaser.proofs.Steps.{step_keeps}

-- the caller goes on with a view that keeps the rule
pub record Goes (o : Setup) (id : ℕ) (views : List View) (f : ℕ → ℕ) (word : ℕ) (tell : View → Type 0) : Type 0 where
  pub view : View
  pub log : List Entry
  pub keeps : Keeps o (f word) (set views id view) log
  pub tells : tell view

-- so the table lets it step
pub allow_one : (o : Setup) (slots id : ℕ) (me : Me (Unit {0}) View) (f : ℕ → ℕ) (then : ℕ → Me (Unit {0}) View → Type 0) → me.0.live ≡ true
    → ((word : ℕ) (views : List View) (log : List Entry) → Keeps me.0.known.opening word views log → get_elem? views id ≡ some me.0
    → Goes me.0.known.opening id views f word (λ w. then word (w, me.1)))
    → Allows (IsKept o) slots id me 0 f then
allow_one o slots id me f then live goes s kept len at small =
    let same : me.0.known.opening ≡ o = (kept.keeps.stands id me.0 at live).opening in
    let keeps' : Keeps me.0.known.opening kept.word s.views kept.log = subst (λ (z : Setup). Keeps z kept.word s.views kept.log) (sym same) kept.keeps in
    let g = goes kept.word s.views kept.log keeps' at in
    let P : List ℕ → Type 0 = λ ws. (w : View) × (a : Act (Unit {0})) × Valid s.homes me.1 a
    × IsKept o (record { words = slice_set ws 0 (f (slice_index ws 0)); homes = homes_after s.homes me.1 a; views = slice_set s.views id w })
    × then (slice_index ws 0) (w, carried_after me.1 a) in
    subst P (sym kept.words) (
      g.view,
      keeps,
      tt,
      record {
        word = f kept.word;
        log = g.log;
        words = refl;
        keeps = subst (λ (z : Setup). Keeps z (f kept.word) (set s.views id g.view) g.log) same g.keeps;
      },
      g.tells,
    )

-- the history with a call more is legal, and has the caller's calls
pub made_legal : (v : View) (n : ℕ) (log : List Entry) (c : Call) (a : Answer) → IsLegal v.known.opening log → record_of n ≡ at_end v.known.opening log
    → Answers (record_of n) (effect_at v c n) a → IsLegal v.known.opening (log ++ entry v.known.number c a ∷ [])
made_legal v n log c a legal now answers = grind (arith, legal_push)

pub made_owns : (k : Known) (log : List Entry) (c : Call) (a : Answer) → Owns log k → Owns (log ++ entry k.number c a ∷ []) (making k log c a)
made_owns k log c a owns = grind (arith, filter-append, eq-eqb, calls_by-other)

module _ (word : ℕ) (views : List View) (log : List Entry) (id : ℕ) (v : View)
    (rule : Keeps v.known.opening word views log) (at : get_elem? views id ≡ some v) (live : v.live ≡ true) where
  knows : Knows log v
  knows = (rule.stands id v at live).knows

  pub finds : Finds v word log
  finds = record { knows = knows; legal = rule.legal; now = rule.now; valid = rule.valid; unturned = rule.unturned }

  -- the history was seen
  pub seen_keeps : Keeps v.known.opening word (set views id (knowing v (seeing v.known log))) log
  seen_keeps = step_keeps v.known.opening word word views log log id v (knowing v (seeing v.known log)) rule at live
      (record { begins = prefix_self log; others = λ n ne. refl }) rule.legal rule.now rule.valid rule.unturned
      (record { live = live; number = refl; opening = refl; splits = refl; joined = refl })
      (record {
        begins = prefix_self log;
        informed = prefix_nil log;
        owns = record { own = knows.owns.own; kept = knows.owns.kept; apart = knows.owns.apart };
      })

  -- a call was made
  pub made_keeps : (word' : ℕ) (c : Call) (a : Answer) → Answers (record_of word) (effect_at v c word) a
      → after (record_of word) (effect_at v c word) ≡ record_of word' → IsWord word' → (record_of word').turned ≡ false
      → Keeps v.known.opening word' (set views id (knowing v (making v.known log c a))) (log ++ entry v.known.number c a ∷ [])
  made_keeps word' c a answers goes valid unturned =
      let k = v.known in
      let p = k.opening.policy in
      let e : Entry = entry k.number c a in
      step_keeps k.opening word word' views log (log ++ e ∷ []) id v (knowing v (making k log c a)) rule at live
      (record {
        begins = prefix_more log e;
        others = λ n ne. calls_by-other n k.number log c a (λ same. ne (same ∙ (rule.stands id v at live).number));
      })
      (made_legal v word log c a rule.legal rule.now answers)
      (sym goes ∙ (ap (λ f. after f (effect p c f)) rule.now ∙ sym (after_all-push p (opened k.opening) log e)))
      valid unturned
      (record { live = live; number = refl; opening = refl; splits = refl; joined = refl })
      (record {
        begins = prefix_self (log ++ e ∷ []);
        informed = prefix_nil (log ++ e ∷ []);
        owns = made_owns k log c a knows.owns;
      })

  load_keeps : (c : Call) (e : Effect) → effect_at v c word ≡ e
      → Keeps v.known.opening word (set views id (knowing v (loaded e v.known log c word))) (loaded e v.known log c word).seen
  load_keeps c Shows is = made_keeps word c (Saw word)
      (subst (λ (e : Effect). Answers (record_of word) e (Saw word)) (sym is) (word, refl, refl))
      (ap (after (record_of word)) is) rule.valid rule.unturned
  load_keeps c (Tells a) is = made_keeps word c a
      (subst (λ (e : Effect). Answers (record_of word) e a) (sym is) refl)
      (ap (after (record_of word)) is) rule.valid rule.unturned
  load_keeps c (Makes f a) is = seen_keeps
  load_keeps c Waits is = seen_keeps

  pub load_goes : (c : Call) (slots : ℕ) (held : List (ℕ × Unit {0}))
      → Goes v.known.opening id views (λ n. n) word (λ w. Loads c (step slots 0 0 0 none) (v, held) word (w, held))
  load_goes c slots held = record {
    view = knowing v (loaded (effect_at v c word) v.known log c word);
    log = (loaded (effect_at v c word) v.known log c word).seen;
    keeps = load_keeps c (effect_at v c word) refl;
    tells = record { log = log; finds = finds; held = refl; view = refl };
  }

  pub watch_goes : (slots : ℕ) (held : List (ℕ × Unit {0}))
      → Goes v.known.opening id views (λ n. n) word (λ w. Watches (step slots 0 0 0 none) (v, held) word (w, held))
  watch_goes slots held = record {
    view = knowing v (seeing v.known log);
    log = log;
    keeps = seen_keeps;
    tells = record { log = log; finds = finds; held = refl; view = refl };
  }

  exchange_keeps : (c : Call) (old new : ℕ) (a : Answer) → effect_at v c old ≡ Makes (record_of new) a → IsWord new → (record_of new).turned ≡ false
      → (b : Bool) → (word == old) ≡ b
      → Keeps v.known.opening (either b new word) (set views id (knowing v (exchanged b (effect_at v c word) v.known log c)))
      (exchanged b (effect_at v c word) v.known log c).seen
  exchange_keeps c old new a makes valid unturned true is =
      let same : effect_at v c word ≡ Makes (record_of new) a = ap (effect_at v c) (eqb-true word old is) ∙ makes in
      subst (λ (e : Effect). Keeps v.known.opening new (set views id (knowing v (won e v.known log c))) (won e v.known log c).seen) (sym same)
      (made_keeps new c a (subst (λ (e : Effect). Answers (record_of word) e a) (sym same) refl) (ap (after (record_of word)) same) valid unturned)
  exchange_keeps c old new a makes valid unturned false is = seen_keeps

  pub exchange_goes : (c : Call) (slots old new : ℕ) (a : Answer) (held : List (ℕ × Unit {0})) → effect_at v c old ≡ Makes (record_of new) a
      → IsWord new → (record_of new).turned ≡ false
      → Goes v.known.opening id views (λ n. either (n == old) new n) word (λ w. Exchanges c (step slots 0 old new none) (v, held) word (w, held))
  exchange_goes c slots old new a held makes valid unturned = record {
    view = knowing v (exchanged (word == old) (effect_at v c word) v.known log c);
    log = (exchanged (word == old) (effect_at v c word) v.known log c).seen;
    keeps = exchange_keeps c old new a makes valid unturned (word == old) refl;
    tells = record { log = log; finds = finds; held = refl; view = refl };
  }

pub loads : (o : Setup) (slots id : ℕ) (me : Me (Unit {0}) View) (c : Call) → me.0.live ≡ true
    → Allows (IsKept o) slots id me 0 (λ n. n) (Loads c (step slots 0 0 0 none) me)
loads o slots id me c live = allow_one o slots id me (λ n. n) (Loads c (step slots 0 0 0 none) me) live
    (λ word views log rule at. load_goes word views log id me.0 rule at live c slots me.1)

pub watches : (o : Setup) (slots id : ℕ) (me : Me (Unit {0}) View) → me.0.live ≡ true
    → Allows (IsKept o) slots id me 0 (λ n. n) (Watches (step slots 0 0 0 none) me)
watches o slots id me live = allow_one o slots id me (λ n. n) (Watches (step slots 0 0 0 none) me) live
    (λ word views log rule at. watch_goes word views log id me.0 rule at live slots me.1)

pub exchanges : (o : Setup) (slots id : ℕ) (me : Me (Unit {0}) View) (c : Call) (old new : ℕ) (a : Answer) → me.0.live ≡ true
    → effect_at me.0 c old ≡ Makes (record_of new) a → IsWord new → (record_of new).turned ≡ false
    → Allows (IsKept o) slots id me 0 (λ n. either (n == old) new n) (Exchanges c (step slots 0 old new none) me)
exchanges o slots id me c old new a live makes valid unturned =
    allow_one o slots id me (λ n. either (n == old) new n) (Exchanges c (step slots 0 old new none) me) live
    (λ word views log rule at. exchange_goes word views log id me.0 rule at live c slots old new a me.1 makes valid unturned)
