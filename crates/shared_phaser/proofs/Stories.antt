-- Histories and their beginnings.
use Rattle.std.proofs.Common.{◌≡◌, ◌≢◌, ℕ, zero, suc, ◌+◌, ◌<◌, List, [], ◌∷◌, ◌++◌, length, refl, sym, ap, ◌∙◌, arith, append_assoc, append-nil, rules}
use Rattle.std.proofs.lemmas.List.Elements.{filter-append}
use mathlib.Core.List.{IsPrefix}
use mathlib.Core.Option.{some, some-ne-none}
use lib.ListN.{get_elem?}
use Rattle.packed_phaser.specs.{Flat.Flat, declared.policy.Policy.Policy}
use Rattle.shared_phaser.specs.declared.history.{Call.Call, Answer.Answer, Entry.Entry}
use Rattle.shared_phaser.specs.History.{Effect, effect, Answers, after, change, IsLegalFrom, after_all, changes, calls_by}
use Rattle.shared_phaser.specs.Known.{entry}

module _ {A : Type 0} where
  pub prefix_self : (xs : List A) → IsPrefix xs xs
  prefix_self xs = ([], append-nil xs)

  pub prefix_nil : (xs : List A) → IsPrefix [] xs
  prefix_nil xs = (xs, refl)

  pub prefix_more : (xs : List A) (x : A) → IsPrefix xs (xs ++ x ∷ [])
  prefix_more xs x = (x ∷ [], refl)

  pub prefix_trans : (xs ys zs : List A) → IsPrefix xs ys → IsPrefix ys zs → IsPrefix xs zs
  prefix_trans xs ys zs p q = (p.0 ++ q.0, sym (append_assoc xs p.0 q.0) ∙ (ap (λ w. w ++ q.0) p.1 ∙ q.1))

  pub in_range : (l : List A) (i : ℕ) (a : A) → get_elem? l i ≡ some a → i < length l
  in_range [] i a e = absurd (some-ne-none a (sym e))
  in_range (x ∷ xs) zero a e = omega arith
  in_range (x ∷ xs) (suc i) a e = let h = in_range xs i a e in omega arith

-- the phaser after one more call
pub after_all-push : (p : Policy) (f : Flat) (xs : List Entry) (e : Entry)
    → after_all p f (xs ++ e ∷ []) ≡ after (after_all p f xs) (effect p e.call (after_all p f xs))
after_all-push p f [] e = refl
after_all-push p f (x ∷ xs) e = after_all-push p (after f (effect p x.call f)) xs e

pub after_all-append : (p : Policy) (f : Flat) (xs ys : List Entry) → after_all p f (xs ++ ys) ≡ after_all p (after_all p f xs) ys
after_all-append p f [] ys = refl
after_all-append p f (x ∷ xs) ys = after_all-append p (after f (effect p x.call f)) xs ys

-- one more call with the right answer is legal
pub legal_push : (p : Policy) (f : Flat) (xs : List Entry) (e : Entry) → IsLegalFrom p f xs
    → Answers (after_all p f xs) (effect p e.call (after_all p f xs)) e.answer → IsLegalFrom p f (xs ++ e ∷ [])
legal_push p f [] e legal answers = (answers, tt)
legal_push p f (x ∷ xs) e legal answers = (legal.0, legal_push p (after f (effect p x.call f)) xs e legal.1 answers)

pub changes-append : (p : Policy) (f : Flat) (xs ys : List Entry) → changes p f (xs ++ ys) ≡ changes p f xs + changes p (after_all p f xs) ys
changes-append p f [] ys = omega arith
changes-append p f (x ∷ xs) ys = let h = changes-append p (after f (effect p x.call f)) xs ys in omega arith

-- an effect that isn't a change leaves the phaser
after_unchanged : (f : Flat) (e : Effect) → change e ≡ 0 → after f e ≡ f
after_unchanged f e h = grind arith

-- and calls without a change leave it too
pub unchanged : (p : Policy) (f : Flat) (xs : List Entry) → changes p f xs ≡ 0 → after_all p f xs ≡ f
unchanged p f [] h = refl
unchanged p f (x ∷ xs) h =
    let here : change (effect p x.call f) ≡ 0 = omega arith in
    let rest : changes p (after f (effect p x.call f)) xs ≡ 0 = omega arith in
    unchanged p (after f (effect p x.call f)) xs rest ∙ after_unchanged f (effect p x.call f) here

-- a call more of this caller, and of another one
pub calls_by-other : (n m : ℕ) (log : List Entry) (c : Call) (a : Answer) → n ≢ m → calls_by n (log ++ entry m c a ∷ []) ≡ calls_by n log
calls_by-other n m log c a ne = search (rules, filter-append)
