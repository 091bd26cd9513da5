-- The words that are read are those of a plan.
use Rattle.std.proofs.Common.{◌≡◌, ◌∙◌, ◌+◌, ◌==◌, ℕ, zero, suc, Bool, true, false, List, [], ◌∷◌, ◌++◌, ap, sym, refl, subst, arith, append_assoc, add-one, IfOk, Result, Ok, Err, if◌then◌else◌, append-nil}
use Rattle.row_code.specs.Answers.{◌>>=◌}
use Rattle.plans.specs.{declared.fault.PlanFault.PlanFault, declared.word.Step.Step, declared.word.Word.Word, Words.words_of}
use Rattle.plans.specs.Plan.{AnswersPlan, Draft, no_words, draft_open, with_word, placed, word_behind, words_behind, lines_behind, words_in_lines}
use Rattle.plans.specs.Reading.{Name, Said, word_of}
use Rattle.plans.specs.Tree.{Plan, Done, Then, Group, words_of_plan, IsPlan}
use Rattle.plans.specs.declared.fault.PlanFaultKind.TheVariants as fault
use Rattle.plans.specs.declared.word.Word.TheVariants as word

-- words behind which so many parentheses that were opened before are closed
record Closes (rest : List Word) (Inner : List Word → Type 0) : Type 0 where
  pub body : Plan
  pub times : ℕ
  pub after : List Word
  pub is : words_of_plan body ++ word.Close times ∷ after ≡ rest
  pub inner : Inner after

abbrev IsNested : ℕ → List Word → Type 0
IsNested zero words = IsPlan words
IsNested (suc depth) words = Closes words (IsNested depth)

-- a step before them
step_nests : (depth : ℕ) (step : Step) (words : List Word) → IsNested depth words → IsNested depth (word.Step step ∷ words)
step_nests zero step words (plan, is) = (Then step plan, ap (λ ws. word.Step step ∷ ws) is)
step_nests (suc depth) step words nested = record {
  body = Then step nested.body;
  times = nested.times;
  after = nested.after;
  is = ap (λ ws. word.Step step ∷ ws) nested.is;
  inner = nested.inner;
}

-- a group before a plan
grouped : (body rest : Plan) (times : ℕ) (tail words : List Word) → words_of_plan rest ≡ tail
    → words_of_plan body ++ word.Close times ∷ tail ≡ words → words_of_plan (Group body times rest) ≡ word.Open ∷ words
grouped body rest times tail words of_rest is = grind arith

-- and before words that close more
regrouped : (body next : Plan) (times more : ℕ) (tail after words : List Word)
    → words_of_plan next ++ word.Close more ∷ after ≡ tail → words_of_plan body ++ word.Close times ∷ tail ≡ words
    → words_of_plan (Group body times next) ++ word.Close more ∷ after ≡ word.Open ∷ words
regrouped body next times more tail after words of_next is = grind (arith, append_assoc)

open_nests : (depth : ℕ) (words : List Word) → IsNested (suc depth) words → IsNested depth (word.Open ∷ words)
open_nests zero words nested = (
  Group nested.body nested.times nested.inner.0,
  grouped nested.body nested.inner.0 nested.times nested.after words nested.inner.1 nested.is,
)
open_nests (suc depth) words nested = record {
  body = Group nested.body nested.times nested.inner.body;
  times = nested.inner.times;
  after = nested.inner.after;
  is = regrouped nested.body nested.inner.body nested.times nested.inner.times nested.after nested.inner.after words
      nested.inner.is nested.is;
  inner = nested.inner.inner;
}

close_nests : (depth times : ℕ) (words : List Word) → IsNested depth words → IsNested (suc depth) (word.Close times ∷ words)
close_nests depth times words nested = record { body = Done; times = times; after = words; is = refl; inner = nested }

-- from one draft to the next words were added, and what nests behind the second nests with them behind the first
record Adds (before after : Draft) : Type 0 where
  pub added : List Word
  pub words : after.words ≡ before.words ++ added
  pub nests : (rest : List Word) → IsNested after.depth rest → IsNested before.depth (added ++ rest)

adds_both : (first second third : Draft) → Adds first second → Adds second third → Adds first third
adds_both first second third a b = grind (arith, append_assoc)

abbrev said : Draft → Said Draft
said draft = Ok draft

abbrev read_as : {A : Type 0} → A → Result A PlanFault
read_as read = Ok read

adds_same_draft : (draft after : Draft) → read_as draft ≡ Ok after → Adds draft after
adds_same_draft draft after same = grind (arith, append-nil)

-- behind `(`
opens : (draft : Draft) (opened : ℕ) → Adds draft (record draft { words = draft.words ++ word.Open ∷ []; depth = draft.depth + 1; opened = opened })
opens draft opened = grind (arith, open_nests)

-- behind `)`
closes : (depth less times : ℕ) (rest : List Word) → less + 1 ≡ depth → IsNested less rest → IsNested depth (word.Close times ∷ rest)
closes depth less times rest is nested = grind (arith, add-one, close_nests)

adds_word : (line : ℕ) (draft after : Draft) (one : Word) → (draft_open line draft one >>= with_word one) ≡ Ok after → Adds draft after
adds_word line draft after one ok = grind (arith, step_nests, opens, closes)

placed_ok : {P : Type 0} (line : ℕ) (after : Draft) (said : Said Draft) → (said ≡ Ok after → P) → placed line said ≡ Ok after → P
placed_ok line after said gives ok = grind arith

adds_said : (line : ℕ) (draft after : Draft) (said : Said Word)
    → placed line (said >>= (λ one. draft_open line draft one >>= with_word one)) ≡ Ok after → Adds draft after
adds_said line draft after said ok = grind (arith, placed_ok, adds_word)

-- one after another
adds_next : (read : Result Draft PlanFault) (next : Draft → Result Draft PlanFault) (draft after : Draft)
    → ((mid : Draft) → read ≡ Ok mid → Adds draft mid) → ((mid : Draft) → next mid ≡ Ok after → Adds mid after)
    → (read >>= next) ≡ Ok after → Adds draft after
adds_next (Err fault) next draft after first second ok = absurd (cc ok)
adds_next (Ok mid) next draft after first second ok = adds_both draft mid after (first mid refl) (second mid ok)

adds_words : (names : List Name) (line : ℕ) (words : List (List ℕ)) (draft after : Draft)
    → words_behind names line draft words ≡ Ok after → Adds draft after
adds_words names line [] draft after ok = adds_same_draft draft after ok
adds_words names line (bytes ∷ words) draft after ok =
    adds_next (word_behind names line draft bytes) (λ mid. words_behind names line mid words) draft after
    (λ mid is. adds_said line draft mid (word_of names bytes) is)
    (λ mid is. adds_words names line words mid after is) ok

adds_lines : (names : List Name) (line : ℕ) (lines : List (List ℕ)) (draft after : Draft)
    → lines_behind names line draft lines ≡ Ok after → Adds draft after
adds_lines names line [] draft after ok = adds_same_draft draft after ok
adds_lines names line (bytes ∷ lines) draft after ok =
    adds_next (words_behind names line draft (words_of bytes)) (λ mid. lines_behind names (line + 1) mid lines) draft after
    (λ mid is. adds_words names line (words_of bytes) draft mid is)
    (λ mid is. adds_lines names (line + 1) lines mid after is) ok

-- at the end
plan_finished : (none : Bool) (draft : Draft) (words : List Word) → (draft.depth == 0) ≡ none → Adds no_words draft
    → (if none then Ok draft.words else Err (record { line = draft.opened; kind = fault.NotClosed })) ≡ read_as words → IsPlan words
plan_finished false draft words is adds ok = absurd (cc ok)
plan_finished true draft words is adds ok =
    let none : draft.depth ≡ 0 = grind (arith, is) in
    let whole : draft.words ≡ words = cc ok in
    let nested : IsNested draft.depth [] = subst (λ k. IsNested k []) (sym none) (Done, refl) in
    subst IsPlan (append-nil adds.added ∙ sym adds.words ∙ whole) (adds.nests [] nested)

pub plan_read : (names : List Name) (lines : List (List ℕ)) (words : List Word) → words_in_lines names lines ≡ Ok words → IsPlan words
plan_read names lines words ok = grind (arith, plan_finished, adds_lines)

pub answer_is_plan : {X : Type 0} (view : X → List Word) (names : List Name) (lines : List (List ℕ)) (result : Result X PlanFault)
    → AnswersPlan view result (words_in_lines names lines) → IfOk result (λ words. IsPlan (view words))
answer_is_plan view names lines result answers = grind (arith, plan_read)
