-- Steps and steps back in any order.
use Rattle.std.proofs.Common.{◌≡◌, ◌∙◌, ◌-◌, ◌<◌, ◌≤◌, ℕ, zero, suc, List, [], ◌∷◌, ◌++◌, length, take, refl, ap, sym, subst, arith, ◌≢◌, length-take, length-take-le, take-take, take_all}
use Rattle.std.proofs.Math.Seq.{take-length}
use Rattle.thread_machine.specs.{World.World, World.StoredWorld, declared.choice.Choice.Choice}
use Rattle.debugger.specs.Session.{Session, went_on, went_back, back_to, IsHistory}
use Rattle.debugger.specs.Moves.{Move, Step, Back, AreSteps, AreMoves, backs, choices_left}
use Rattle.debugger.proofs.Histories.{history_on, history_back_cons}

history_taken : (first : World) (choices : List Choice) (session : Session) (past : List StoredWorld) → session.past ≡ past → past ≢ []
    → IsHistory first choices session → IsHistory first (take (length choices - 1) choices) (back_to past session)
history_taken first choices session past is some history = grind (arith, history_back_cons)

pub any_moves : (moves : List Move) (first : World) (choices : List Choice) (before after : Session)
    → IsHistory first choices before → AreMoves before moves after
    → IsHistory first (choices_left choices moves) after
any_moves [] first choices before after history same = subst (IsHistory first choices) (sym same) history
any_moves (Step choice ∷ moves) first choices before after history moved =
    any_moves moves first (choices ++ choice ∷ []) moved.0 after (history_on first choices choice before moved.0 history moved.1) moved.2
any_moves (Back ∷ moves) first choices before after history moved =
    grind (arith, history_taken, any_moves moves first (take (length choices - 1) choices) (went_back before) after)

-- one step back of what one step more has left
back_one : (session : Session) (world after : StoredWorld) (past : List StoredWorld) (n m : ℕ) → n ≡ suc m → n ≤ session.kept
    → went_back (record session { machine = after; past = take n (take session.kept (world ∷ past)) })
    ≡ record session { machine = world; past = take m past }
back_one session world after past n m is few = grind (arith, take-take)

-- the session after one step, given by its parts
steps_and_backs_by : (choices : List Choice) (before next after : Session) (world : StoredWorld)
    → next ≡ went_on before world → suc (length choices) ≤ before.kept
    → backs (length choices) after ≡ record next { past = take (next.kept - length choices) next.past }
    → went_back (backs (length choices) after) ≡ record before { past = take (before.kept - suc (length choices)) before.past }
steps_and_backs_by choices before next after world is few back = grind (arith, back_one)

pub steps_and_backs : (choices : List Choice) (before after : Session) → length choices ≤ before.kept
    → length before.past ≤ before.kept → AreSteps before choices after
    → backs (length choices) after
    ≡ record before { past = take (before.kept - length choices) before.past }
steps_and_backs [] before after few room same = grind (arith, take_all)
steps_and_backs (choice ∷ choices) before after few room steps =
    let next = steps.0 in
    let is = steps.1.session in
    let kept : next.kept ≡ before.kept = ap (λ (s : Session). s.kept) is in
    let past : length next.past ≡ length (take before.kept (before.machine ∷ before.past)) = ap (λ (s : Session). length s.past) is in
    let fewer : length choices ≤ next.kept = omega (arith, few, kept) in
    let within : length next.past ≤ next.kept =
    omega (arith, kept, past, length-take before.kept (before.machine ∷ before.past)) in
    steps_and_backs_by choices before next after next.machine is few (steps_and_backs choices next after fewer within steps.2)

-- how many can still be taken back after some were
back_length : (past : List StoredWorld) (session : Session) → session.past ≡ past
    → length (back_to past session).past ≡ length past - 1
back_length [] session is = ap (λ (l : List StoredWorld). length l) is
back_length (world ∷ past) session is = omega arith

pub backs_length : (n : ℕ) (session : Session) → length (backs n session).past ≡ length session.past - n
backs_length zero session = omega arith
backs_length (suc n) session =
    let once = back_length (backs n session).past (backs n session) refl in
    omega (arith, once, backs_length n session)

-- the choices that are left then
take_less : (n : ℕ) (choices : List Choice)
    → take (length (take (length choices - n) choices) - 1) (take (length choices - n) choices) ≡ take (length choices - suc n) choices
take_less n choices =
    let less : length (take (length choices - n) choices) ≡ length choices - n = length-take-le (length choices - n) choices (omega arith) in
    let one : length (take (length choices - n) choices) - 1 ≡ length choices - suc n = omega (arith, less) in
    ap (λ k. take k (take (length choices - n) choices)) one
    ∙ take-take (length choices - suc n) (length choices - n) choices (omega arith)

some_past : (past : List StoredWorld) → 0 < length past → past ≢ []
some_past [] some is = absurd (omega (arith, some))
some_past (world ∷ past) some is = absurd (cc is)

all_taken : (choices : List Choice) → take (length choices - 0) choices ≡ choices
all_taken choices = ap (λ n. take n choices) (omega arith) ∙ take-length choices

pub history_backs : (n : ℕ) (first : World) (choices : List Choice) (session : Session) → n ≤ length session.past
    → IsHistory first choices session → IsHistory first (take (length choices - n) choices) (backs n session)
history_backs zero first choices session few history =
    subst (λ (l : List Choice). IsHistory first l session) (sym (all_taken choices)) history
history_backs (suc n) first choices session few history =
    let before = backs n session in
    let some : 0 < length before.past = omega (arith, few, backs_length n session) in
    subst (λ (l : List Choice). IsHistory first l (went_back before)) (take_less n choices)
    (history_taken first (take (length choices - n) choices) before before.past refl (some_past before.past some)
    (history_backs n first choices session (omega (arith, few)) history))
