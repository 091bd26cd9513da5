-- What the tries of a call come to.
use Rattle.std.proofs.Common.{◌≡◌, ◌≢◌, ◌⊎◌, ℕ, ◌+◌, ◌≤◌, ◌==◌, if◌then◌else◌, Bool, true, false, List, refl, sym, ap, ◌∙◌, subst, inl, inr, arith, append_assoc, eq-zero-or-pos}
use Rattle.atomic_table.specs.Table.{Me, Step}
use Rattle.packed_phaser.specs.{Flat.Flat, Word.IsWord, Word.record_of, declared.policy.Policy.Policy}
use Rattle.shared_phaser.specs.declared.history.{Call.Call, Answer.Answer, Entry.Entry, Known.Known, View.View}
use Rattle.shared_phaser.specs.declared.history.Answer.TheVariants.{Saw, Replied, Passed}
use Rattle.shared_phaser.specs.History.{Effect, Shows, Tells, Makes, Waits, effect, Answers, at_end, changes}
use Rattle.shared_phaser.specs.{Known.making, Known.seeing, Known.MakesCall, Known.SeesMore, Outcome.IsPrompt, Outcome.Suits}
use Rattle.shared_phaser.specs.Rule.{Finds, loaded, exchanged, effect_at, Loads, Exchanges}
use Rattle.shared_phaser.proofs.Stories.{after_all-append, changes-append, unchanged}
use Rattle.shared_phaser.proofs.Plays.{made_legal, made_owns}

-- a call that changes the phaser finds it not terminated
pub opens : (p : Policy) (c : Call) (f g : Flat) (a : Answer) → effect p c f ≡ Makes g a → f.ended ≡ false
opens p c f g a is = grind arith

-- a wait changes nothing
awaits_nothing : (b e : Bool) (g : Flat) (x y a : Answer) → (if b then Tells x else (if e then Waits else Tells y)) ≡ Makes g a → ⊥
awaits_nothing true e g x y a is = cc is
awaits_nothing false e g x y a is = grind arith

pub unturned_after : (p : Policy) (c : Call) (f g : Flat) (a : Answer) → effect p c f ≡ Makes g a → f.turned ≡ false → g.turned ≡ false
unturned_after p c f g a is un = grind (arith, awaits_nothing)

-- a call on the history that was found
pub made : (v : View) (n : ℕ) (log : List Entry) (c : Call) (a : Answer) → Finds v n log → Answers (record_of n) (effect_at v c n) a
    → MakesCall v.known c a (making v.known log c a)
made v n log c a finds answers = record {
  between = finds.knows.begins.0;
  is = ap (λ (xs : List Entry). making v.known xs c a) (sym finds.knows.begins.1);
  legal = made_legal v n log c a finds.legal finds.now answers;
  owns = made_owns v.known log c a finds.knows.owns;
}

-- a look at it
pub seen : (v : View) (n : ℕ) (log : List Entry) (least : ℕ) (finds : Finds v n log)
    → least ≤ changes v.known.opening.policy (at_end v.known.opening v.known.seen) finds.knows.begins.0 → SeesMore v.known least (seeing v.known log)
seen v n log least finds grown = grind arith

-- what the call makes of the word found, as the code asked
pub effect_here : (v : View) (c d : Call) (p : Policy) (n word : ℕ) (e : Effect) → v.known.opening.policy ≡ p → c ≡ d → word ≡ n
    → e ≡ effect p d (record_of word) → effect_at v c n ≡ e
effect_here v c d p n word e policy call same is = grind arith

loaded_opening : (e : Effect) (k : Known) (log : List Entry) (c : Call) (n : ℕ) → (loaded e k log c n).opening ≡ k.opening
loaded_opening e k log c n = grind arith

module _ (c : Call) (s : Step (Unit {0})) (v w : Me (Unit {0}) View) (n : ℕ) (load : Loads c s v n w) where
  pub opening_stays : w.0.known.opening ≡ v.0.known.opening
  opening_stays = ap (λ (u : View). u.known.opening) load.view ∙ loaded_opening (effect_at v.0 c n) v.0.known load.log c n

  pub live_stays : w.0.live ≡ v.0.live
  live_stays = ap (λ (u : View). u.live) load.view

  known_is : (e : Effect) → effect_at v.0 c n ≡ e → loaded e v.0.known load.log c n ≡ w.0.known
  known_is e is = sym (ap (λ (u : View). u.known) load.view ∙ ap (λ (e : Effect). loaded e v.0.known load.log c n) is)

  -- a load that answers the call
  pub told : (a : Answer) → effect_at v.0 c n ≡ Tells a → MakesCall v.0.known c a w.0.known
  told a is = grind (arith, known_is, made)

  pub looked : effect_at v.0 c n ≡ Shows → MakesCall v.0.known c (Saw n) w.0.known
  looked is = grind (arith, known_is, made)

  -- and one that doesn't
  waited_as : (e : Effect) → effect_at v.0 c n ≡ e → loaded e v.0.known load.log c n ≡ seeing v.0.known load.log → SeesMore v.0.known 0 w.0.known
  waited_as e is same = subst (SeesMore v.0.known 0) (sym same ∙ known_is e is) (seen v.0 n load.log 0 load.finds (omega arith))

  pub waited : effect_at v.0 c n ≡ Waits → SeesMore v.0.known 0 w.0.known
  waited is = waited_as Waits is refl

  pub begun : (g : Flat) (a : Answer) → effect_at v.0 c n ≡ Makes g a → SeesMore v.0.known 0 w.0.known
  begun g a is = waited_as (Makes g a) is refl

  pub begun_at : (g : Flat) (a : Answer) → effect_at v.0 c n ≡ Makes g a → record_of n ≡ at_end w.0.known.opening w.0.known.seen
  begun_at g a is = subst (λ (k : Known). record_of n ≡ at_end k.opening k.seen) (known_is (Makes g a) is) load.finds.now

-- what follows what was seen
pub then_makes : (k l m : Known) (least : ℕ) (c : Call) (a : Answer) → SeesMore k least l → MakesCall l c a m → MakesCall k c a m
then_makes k l m least c a sees = grind (arith, append_assoc)

pub then_sees : (k l m : Known) (least more : ℕ) → SeesMore k least l → SeesMore l more m → SeesMore k (least + more) m
then_sees k l m least more sees = grind (arith, changes-append, after_all-append, append_assoc)

-- a word is the only one of a phaser that isn't terminated
abbrev pub OneWord : Type 0
OneWord = (v w : ℕ) → IsWord v → IsWord w → record_of v ≡ record_of w → (record_of v).ended ≡ false → v ≡ w

module _ (c : Call) (s : Step (Unit {0})) (v w : Me (Unit {0}) View) (n : ℕ) (exchange : Exchanges c s v n w) where
  exchanged_is : (b : Bool) → (n == s.first) ≡ b → exchanged b (effect_at v.0 c n) v.0.known exchange.log c ≡ w.0.known
  exchanged_is b is = sym (ap (λ (u : View). u.known) exchange.view ∙ ap (λ (b : Bool). exchanged b (effect_at v.0 c n) v.0.known exchange.log c) is)

  -- the exchange was won
  pub won_is : (a : Answer) (g : Flat) → (n == s.first) ≡ true → effect_at v.0 c n ≡ Makes g a → MakesCall v.0.known c a w.0.known
  won_is a g hit is = grind (arith, exchanged_is, made)

  -- or lost, and then another call changed the phaser
  pub lost_is : OneWord → (n == s.first) ≡ false → n ≢ s.first → IsWord s.first → (record_of s.first).ended ≡ false
      → record_of s.first ≡ at_end v.0.known.opening v.0.known.seen
      → SeesMore v.0.known 1 w.0.known × (record_of n ≡ at_end w.0.known.opening w.0.known.seen)
  lost_is one miss apart valid running found =
      grind (arith, after_all-append, unchanged, eq-zero-or-pos, exchanged_is, seen)

-- the tries of a call, so far all lost
abbrev pub RacesSoFar : Known → ℕ → ℕ → Known → Type 0
RacesSoFar k n word l = ((n ≡ 0) × (l ≡ k)) ⊎ (SeesMore k n l × (record_of word ≡ at_end l.opening l.seen))

pub race_more : (k l m : Known) (n word word' : ℕ) → RacesSoFar k n word l → SeesMore l 1 m → record_of word' ≡ at_end m.opening m.seen → RacesSoFar k (n + 1) word' m
race_more k l m n word word' given sees is = grind (arith, then_sees)

-- the tries of a call that is tried until it has an answer
abbrev pub LaterThan : Known → Known → Type 0
LaterThan k l = (l ≡ k) ⊎ SeesMore k 0 l

weaker : (k l : Known) (n : ℕ) → SeesMore k n l → SeesMore k 0 l
weaker k l n sees = record { between = sees.between; is = sees.is; legal = sees.legal; owns = sees.owns; grown = omega arith }

pub later_more : (k l m : Known) (n : ℕ) → LaterThan k l → SeesMore l n m → LaterThan k m
later_more k l m n (inl h) sees = inr (weaker k m n (subst (λ (z : Known). SeesMore z n m) h sees))
later_more k l m n (inr h) sees = inr (weaker k m (0 + n) (then_sees k l m 0 n h sees))

-- a call that waits for nobody has a reply
abbrev pub IsReply : Answer → Type 0
IsReply (Saw word) = ⊥
IsReply (Replied r) = Unit {0}
IsReply (Passed view) = ⊥

pub prompt_replies : (c : Call) (a : Answer) → IsPrompt c → Suits c a → IsReply a
prompt_replies c a prompt suits = grind arith
