use Rattle.std.proofs.Common.{◌≡◌, ℕ, zero, suc, ◌+◌, ◌<◌, Bool, true, false, not, cond, ◌==◌, refl, sym, ◌∙◌, ap, arith, List, [], ◌∷◌, length, Option, Some, None, option_map, All, inl, inr, slice_set, count_by, zero-add, slice_get, replicate, rules, ◌≢◌, eq-eqb, ne_eqb, le-leb}
use Rattle.std.proofs.lemmas.{Bool.cases_eq, List.length-map, List.Elements.All-cons, List.Elements.All-filter}
use Rattle.std.proofs.lemmas.List.Sums.{sum_by-cons, sum_by-set}
use Rattle.cyclic_barrier.specs.declared.answer.WaitState.{WaitState}
use Rattle.cyclic_barrier.specs.Waits.{wait_at, is_waiting, released, release}
use Rattle.cyclic_barrier.specs.PlainBarrier.{PlainBarrier, Wait, End, state_after, state_of_wait, wait_of, state_of, is_unreleased, end_generation}
use Rattle.cyclic_barrier.specs.Barrier.{BarrierState, number_waiting, IsBarrier}
use Rattle.cyclic_barrier.specs.Past.{IsStateAfter, HasPast, HasBegun, OneWaitEach, Agrees, FollowsPast}
use Rattle.cyclic_barrier.specs.declared.answer.WaitState.TheVariants as state
use Rattle.cyclic_barrier.specs.PlainBarrier as plain
use Rattle.cyclic_barrier.specs.Barrier as now
use Rattle.cyclic_barrier.proofs.PlainBarrierLemmas.{ended_by, state_of-end, none_waiting, begun_still, waiting_now, wait_of-others, waiting-others, one_each-others}
use Rattle.cyclic_barrier.proofs.WaitsLemmas.{wait_at-release, wait_at-set}

-- an end releases a wait as that outcome does
ended_is_released : (end : End) (s : Option WaitState) → option_map (ended_by end) s ≡ released (state_after (Some end)) s
ended_is_released end s = grind arith

released_waits : (end : End) (s : Option WaitState) → is_waiting (released (state_after (Some end)) s) ≡ false
released_waits end s = grind arith

-- nobody waits once all are released
none_left : (end : End) (waits : List (Option WaitState)) → count_by is_waiting (release (state_after (Some end)) waits) ≡ 0
none_left end [] = refl
none_left end (x ∷ waits) = sum_by-cons _ (released (state_after (Some end)) x) (release (state_after (Some end)) waits) ∙ rw (released_waits end x) (zero-add _ ∙ none_left end waits)

-- the generation ends
pub stands-end :
    (end : End) (b : BarrierState) (p : PlainBarrier) → IsStateAfter b p →
    IsStateAfter (record b { waits = release (state_after (Some end)) b.waits }) (end_generation end p)
stands-end end b p s = record {
  parties = s.parties;
  action = s.action;
  broken = s.broken;
  runner = s.runner;
  number_waiting = none_waiting p.waits p.ends end s.begun ∙ sym (none_left end b.waits);
  waits = λ t. state_of-end p.waits p.ends end t s.begun ∙ ended_is_released end (state_of t p)
      ∙ ap (released (state_after (Some end))) (s.waits t) ∙ sym (wait_at-release (state_after (Some end)) b.waits t);
  begun = begun_still p.waits p.ends end s.begun;
  one_each = s.one_each;
}

-- the flag that the barrier is broken
stands-flag :
    (flag : Bool) (b : BarrierState) (p : PlainBarrier) → IsStateAfter b p → IsStateAfter (record b { broken = flag }) (record p { broken = flag })
stands-flag flag b p s = grind arith

-- the runner
pub stands-runner :
    (runner : Option ℕ) (b : BarrierState) (p : PlainBarrier) → IsStateAfter b p → IsStateAfter (record b { runner = runner }) (record p { runner = runner })
stands-runner runner b p s = grind arith

pub stands-break : (b : BarrierState) (p : PlainBarrier) → IsStateAfter b p → IsStateAfter (now.break b) (plain.break p)
stands-break b p s = stands-flag true _ _ (stands-end plain.broken b p s)

-- the state of a thread once another, or this one, has left
state_of-leave :
    (p : PlainBarrier) (gone thread : ℕ) →
    state_of thread (plain.leave gone p) ≡ cond (gone == thread) None (state_of thread p)
state_of-leave p gone thread = rw (wait_of-others p.waits gone thread) (elim (gone == thread) as (λ b. option_map (state_of_wait p.ends) (cond b None (wait_of thread p.waits)) ≡ cond b None (option_map (state_of_wait p.ends) (wait_of thread p.waits))) [ true ↦ refl | false ↦ refl ])

not_waiting : (wait : Option WaitState) → wait ≢ Some state.Waiting → is_waiting wait ≡ false
not_waiting wait n = grind arith

-- how many wait once the wait of one thread has changed
count-set :
    (waits : List (Option WaitState)) (i : ℕ) (wait : Option WaitState) → i < length waits → is_waiting (wait_at waits i) ≡ false →
    count_by is_waiting (slice_set waits i wait) ≡ cond (is_waiting wait) 1 0 + count_by is_waiting waits
count-set waits i wait within none = grind (arith, sum_by-set)

-- a released thread leaves
pub stands-leave :
    (gone : ℕ) (b : BarrierState) (p : PlainBarrier) → gone < length b.waits → wait_at b.waits gone ≢ Some state.Waiting → IsStateAfter b p →
    IsStateAfter (now.leave gone b) (plain.leave gone p)
stands-leave gone b p there out s = record {
  parties = s.parties;
  action = s.action;
  broken = s.broken;
  runner = s.runner;
  number_waiting = waiting-others p.waits p.ends gone s.one_each (ap is_waiting (s.waits gone) ∙ not_waiting _ out) ∙ s.number_waiting
      ∙ sym (count-set b.waits gone None there (not_waiting _ out) ∙ zero-add _);
  waits = λ t. state_of-leave p gone t ∙ ap (cond (gone == t) None) (s.waits t) ∙ sym (wait_at-set b.waits gone t None there);
  begun = All-filter (λ wait. not (wait.thread == gone)) (HasBegun p.ends) p.waits s.begun;
  one_each = one_each-others p.waits gone s.one_each;
}

-- the state of a thread once another, or this one, has begun to wait
state_of-add :
    (p : PlainBarrier) (thread t : ℕ) →
    state_of t (plain.add_wait thread p).barrier ≡ cond (thread == t) (Some state.Waiting) (state_of t p)
state_of-add p thread t = elim (thread == t) as (λ b. option_map (state_of_wait p.ends) (cond b (Some (record { thread = thread; generation = length p.ends })) (wait_of t p.waits)) ≡ cond b (Some state.Waiting) (option_map (state_of_wait p.ends) (wait_of t p.waits))) [ true ↦ ap (λ x. Some x) (waiting_now p.ends) | false ↦ refl ]

absent : (ends : List End) (o : Option Wait) → option_map (state_of_wait ends) o ≡ None → o ≡ None
absent ends o e = grind arith

-- a thread waits
pub stands-add :
    (thread : ℕ) (b : BarrierState) (p : PlainBarrier) → thread < length b.waits → wait_at b.waits thread ≡ None → IsStateAfter b p →
    Agrees (now.add_wait thread b) (plain.add_wait thread p)
stands-add thread b p there none s =
    let wait : Wait = record { thread = thread; generation = length p.ends } in
    let counted : is_unreleased p.ends wait ≡ true = le-leb _ _ (omega arith) in
    record {
      barrier = record {
        parties = s.parties;
        action = s.action;
        broken = s.broken;
        runner = s.runner;
        number_waiting = sum_by-cons _ wait p.waits ∙ rw counted (ap (λ n. 1 + n) s.number_waiting ∙ sym (count-set b.waits thread (Some state.Waiting) there (ap is_waiting none)));
        waits = λ t. state_of-add p thread t ∙ ap (cond (thread == t) (Some state.Waiting)) (s.waits t) ∙ sym (wait_at-set b.waits thread t (Some state.Waiting) there);
        begun = All-cons (HasBegun p.ends) wait p.waits (omega arith) s.begun;
        one_each = (absent p.ends (wait_of thread p.waits) (s.waits thread ∙ none), s.one_each);
      };
      answer = rw (s.parties, s.number_waiting) refl;
    }

-- two choices by one test agree where each way does
either : {A B : Type 0} (P : A → B → Type 0) (x y : Bool) {a b : A} {c d : B} → y ≡ x → P a c → P b d → P (cond x a b) (cond y c d)
either P true true e p q = p
either P false false e p q = q
either _ _ _ e p q = cc

stands-arrive_last :
    (thread : ℕ) (b : BarrierState) (p : PlainBarrier) → IsStateAfter b p → Agrees (now.arrive_last thread b) (plain.arrive_last thread p)
stands-arrive_last thread b p s = either Agrees b.action p.action s.action
    (record { barrier = stands-runner (Some thread) b p s; answer = refl })
    (record { barrier = stands-end plain.tripped b p s; answer = refl })

stands-arrive :
    (thread : ℕ) (interrupted no_wait : Bool) (b : BarrierState) (p : PlainBarrier) → thread < length b.waits →
    wait_at b.waits thread ≡ None → IsStateAfter b p → Agrees (now.arrive thread interrupted no_wait b) (plain.arrive thread interrupted no_wait p)
stands-arrive thread interrupted no_wait b p there none s =
    either Agrees b.broken p.broken s.broken (record { barrier = s; answer = refl })
    (either Agrees interrupted interrupted refl (record { barrier = stands-break b p s; answer = refl })
    (either Agrees (number_waiting b + 1 == b.parties) (plain.number_waiting p + 1 == p.parties) (rw (s.number_waiting, s.parties) refl)
    (stands-arrive_last thread b p s)
    (either Agrees no_wait no_wait refl (record { barrier = stands-break b p s; answer = refl }) (stands-add thread b p there none s))))

pub stands-beside :
    (r q : Option ℕ) (thread : ℕ) (interrupted no_wait : Bool) (b : BarrierState) (p : PlainBarrier) → q ≡ r → thread < length b.waits →
    wait_at b.waits thread ≡ None → IsStateAfter b p →
    Agrees (now.enter_beside r thread interrupted no_wait b) (plain.enter_beside q thread interrupted no_wait p)
stands-beside r q thread interrupted no_wait b p e there none s = grind (arith, stands-arrive)

pub stands-end_action : (returned : Bool) (b : BarrierState) (p : PlainBarrier) → IsStateAfter b p → IsStateAfter (now.end_action returned b) (plain.end_action returned p)
stands-end_action returned b p s =
    let rested : IsStateAfter (record b { runner = None }) (record p { runner = None }) = stands-runner None b p s in
    either IsStateAfter returned returned refl (stands-end plain.tripped _ _ rested) (stands-break _ _ rested)

gone_or_released : (wait : Option WaitState) → released state.Broken wait ≢ Some state.Waiting
gone_or_released wait e = grind arith

pub stands-interrupt :
    (thread : ℕ) (b : BarrierState) (p : PlainBarrier) → thread < length b.waits → IsStateAfter b p → IsStateAfter (now.interrupt thread b) (plain.interrupt thread p)
stands-interrupt thread b p there s = stands-leave thread _ _ (rw (length-map b.waits (released state.Broken)) there) (λ e. gone_or_released _ (sym (wait_at-release state.Broken b.waits thread) ∙ e)) (stands-break b p s)

-- where nobody waits nobody is released
none_released : (waits : List (Option WaitState)) → count_by is_waiting waits ≡ 0 → release state.Broken waits ≡ waits
none_released [] e = refl
none_released (None ∷ waits) e = ap (λ ws. None ∷ ws) (none_released waits e)
none_released (Some state.Waiting ∷ waits) e = absurd (omega (arith, sum_by-cons (λ w. cond (is_waiting w) 1 0) (Some state.Waiting) waits))
none_released (Some state.Tripped ∷ waits) e = ap (λ ws. Some state.Tripped ∷ ws) (none_released waits e)
none_released (Some state.Broken ∷ waits) e = ap (λ ws. Some state.Broken ∷ ws) (none_released waits e)

pub stands-reset : (b : BarrierState) (p : PlainBarrier) → IsStateAfter b p → IsStateAfter (now.reset b) (plain.reset p)
stands-reset b p s = stands-flag false (record b { waits = release state.Broken b.waits }) (cond (0 == plain.number_waiting p) p (end_generation plain.broken p))
    (elim (cases_eq 0 (plain.number_waiting p)) as (λ _. IsStateAfter (record b { waits = release state.Broken b.waits }) (cond (0 == plain.number_waiting p) p (end_generation plain.broken p))) [
      | inl e ↦ rw (eq-eqb _ _ e, none_released b.waits (sym (e ∙ s.number_waiting))) s
      | inr n ↦ rw (ne_eqb _ _ n) (stands-end plain.broken b p s)
    ])

-- a past of each barrier: one generation tripped, one broke, and each wait is of one of the two or of that under way
abbrev two_ends : List End
two_ends = plain.tripped ∷ plain.broken ∷ []

abbrev generation_of : WaitState → ℕ
generation_of state.Tripped = 0
generation_of state.Broken = 1
generation_of state.Waiting = 2

abbrev some_wait : ℕ → WaitState → Wait
some_wait thread s = record { thread = thread; generation = generation_of s }

abbrev past_from : ℕ → List (Option WaitState) → List Wait
past_from k [] = []
past_from k (None ∷ waits) = past_from (suc k) waits
past_from k (Some s ∷ waits) = some_wait k s ∷ past_from (suc k) waits

none_before : (k t : ℕ) (waits : List (Option WaitState)) → t < k → wait_of t (past_from k waits) ≡ None
none_before k t [] before = refl
none_before k t (None ∷ waits) before = none_before (suc k) t waits (omega arith)
none_before k t (Some s ∷ waits) before = rw (ne_eqb k t (λ e. omega arith)) (none_before (suc k) t waits (omega arith))

state_again : (s : WaitState) → state_after (slice_get two_ends (generation_of s)) ≡ s
state_again s = grind arith

found : (k i t : ℕ) (waits : List (Option WaitState)) → k + i ≡ t → option_map (state_of_wait two_ends) (wait_of t (past_from k waits)) ≡ wait_at waits i
found k i t [] e = refl
found k zero t (None ∷ waits) e = ap (option_map (state_of_wait two_ends)) (none_before (suc k) t waits (omega arith))
found k (suc i) t (None ∷ waits) e = found (suc k) i t waits (omega arith)
found k zero t (Some s ∷ waits) e = rw (eq-eqb k t (omega arith)) (ap (λ x. Some x) (state_again s))
found k (suc i) t (Some s ∷ waits) e = rw (ne_eqb k t (λ f. omega arith)) (found (suc k) i t waits (omega arith))

as_many : (k : ℕ) (waits : List (Option WaitState)) → count_by (is_unreleased two_ends) (past_from k waits) ≡ count_by is_waiting waits
as_many k [] = refl
as_many k (None ∷ waits) = as_many (suc k) waits
as_many k (Some state.Tripped ∷ waits) = as_many (suc k) waits
as_many k (Some state.Broken ∷ waits) = as_many (suc k) waits
as_many k (Some state.Waiting ∷ waits) = sum_by-cons _ (some_wait k state.Waiting) (past_from (suc k) waits) ∙ ap (λ n. 1 + n) (as_many (suc k) waits)
    ∙ sym (sum_by-cons (λ w. cond (is_waiting w) 1 0) (Some state.Waiting) waits)

all_begun : (k : ℕ) (waits : List (Option WaitState)) → All (HasBegun two_ends) (past_from k waits)
all_begun k [] = search rules
all_begun k (None ∷ waits) = all_begun (suc k) waits
all_begun k (Some state.Tripped ∷ waits) = All-cons (HasBegun two_ends) _ _ (omega arith) (all_begun (suc k) waits)
all_begun k (Some state.Broken ∷ waits) = All-cons (HasBegun two_ends) _ _ (omega arith) (all_begun (suc k) waits)
all_begun k (Some state.Waiting ∷ waits) = All-cons (HasBegun two_ends) _ _ (omega arith) (all_begun (suc k) waits)

one_wait_each : (k : ℕ) (waits : List (Option WaitState)) → OneWaitEach (past_from k waits)
one_wait_each k [] = tt
one_wait_each k (None ∷ waits) = one_wait_each (suc k) waits
one_wait_each k (Some s ∷ waits) = (none_before (suc k) k waits (omega arith), one_wait_each (suc k) waits)

pub has_past : (b : BarrierState) → HasPast b
has_past b = (
  record { parties = b.parties; action = b.action; ends = two_ends; waits = past_from 0 b.waits; broken = b.broken; runner = b.runner },
  record {
    parties = refl;
    action = refl;
    broken = refl;
    runner = refl;
    number_waiting = as_many 0 b.waits;
    waits = λ t. found 0 t t b.waits (zero-add t);
    begun = all_begun 0 b.waits;
    one_each = one_wait_each 0 b.waits;
  },
)

none_at : (n t : ℕ) → wait_at (replicate n None) t ≡ None
none_at (suc n) (suc t) = none_at n t
none_at _ _ = refl

pub stands-fresh : (parties : ℕ) (action : Bool) → IsStateAfter (now.fresh parties action) (plain.fresh parties action)
stands-fresh parties action = search (rules, none_at)

pub follows_past : (b : BarrierState) → IsBarrier b → FollowsPast b
follows_past b sound =
    let long : length b.waits ≡ 64 = sound.threads in
    record {
      look = λ thread p s. s.waits thread;
      enter = λ thread interrupted no_wait there none p s. stands-beside b.runner p.runner thread interrupted no_wait b p s.runner (rw long there) none s;
      end_action = λ returned p s. stands-end_action returned b p s;
      leave = λ thread there out p s. stands-leave thread b p (rw long there) out s;
      interrupt = λ thread there p s. stands-interrupt thread b p (rw long there) s;
      expire = λ thread there p s. stands-interrupt thread b p (rw long there) s;
      reset = λ p s. stands-reset b p s;
    }
