-- What a turn makes of the past of each barrier, and of the trees of phasers.
use Rattle.std.proofs.Common.{◌≡◌, ◌≢◌, ◌∙◌, ◌⊎◌, sym, inl, inr, ℕ, ℤ, pos, zero, suc, ◌<◌, ◌&&◌, not, Bool, true, false, List, [], ◌∷◌, ap, refl, if◌then◌else◌, arith, rules, nat_abs, int_lt, is_some, length, Option, Some, None, slice_set, slice_index_or, eqb-true}
use Rattle.std.proofs.lemmas.Bool.{and_parts}
use Rattle.std.specs.Ordering.{int_eq}
use Rattle.instruction_table.specs.declared.{row.Row.Row, register.Reg.Reg, register.Reg.TheVariants.R0, group.Group.Group}
use Rattle.instruction_table.specs.declared.row.Row.TheVariants.{Halt, Ret, Out, Preg, Pbulk, Parr, Pdereg, Paaa, Pawait, Pawaiti, Pforce, Pphase, Cawait, Creset, Cbroken, Cwaiting, Cparties, Pawaitt, Cawaitt}
use Rattle.instruction_table.specs.{Registers.value_in, Group.group_of}
use Rattle.instruction_table.specs.declared.group.Group.TheVariants.{Own, Calls, Data, Phasers, Getters, Barriers}
use Rattle.tier_tree.specs.declared.{registered.Registered.Registered, arrived.Arrived.Arrived, id.PhaserId.PhaserId}
use Rattle.tier_tree.specs.{Forest.PhaserState, Forest.flat_at, Arrival.arrival}
use Rattle.tier_tree.specs.declared.registered.Registered.TheVariants as registered
use Rattle.tier_tree.specs.declared.arrived.Arrived.TheVariants as arrived
use Rattle.cyclic_barrier.specs.{declared.answer.Entered.Entered, declared.answer.WaitState.WaitState, Waits.wait_at}
use Rattle.cyclic_barrier.specs.Barrier.{BarrierState, Entry, fresh, enter_timed, has_wait}
use Rattle.cyclic_barrier.specs.{PlainBarrier.PlainBarrier, PlainBarrier.state_of, Past.IsStateAfter}
use Rattle.cyclic_barrier.specs.declared.answer.Entered.TheVariants as entered
use Rattle.cyclic_barrier.specs.declared.answer.WaitState.TheVariants as state
use Rattle.tier_tree.proofs.Stands.{same-is}
use Rattle.loader.specs.Program.{Program, IsNamed, row_at}
use Rattle.thread_state.specs.declared.{event.What.What, frame.Frame.Frame, status.Status.Status}
use Rattle.thread_state.specs.Thread.{ThreadState, top_of, is_full}
use Rattle.thread_state.specs.declared.event.What.TheVariants as what
use Rattle.thread_state.specs.declared.frame.Frame.TheVariants as frame
use Rattle.thread_state.specs.declared.status.Status.TheVariants as status
use Rattle.machine_scene.specs.{declared.manner.Manner.Manner, OwnRows.outcome_of_own_row, DataRows.outcome_of_data_row}
use Rattle.machine_scene.specs.Scene.{Scene, Outcome, counts_of, thread_at, barrier_at, with_phasers, with_barrier, with_thread}
use Rattle.machine_scene.specs.CallRows.{outcome_of_routine_end, outcome_of_ret, outcome_of_call_row}
use Rattle.machine_scene.specs.{GetterRows.outcome_of_getter_row, Unwinding.outcome_of_popped}
use Rattle.machine_scene.specs.PhaserRows.{is_own_tree, is_past, has_routine, answer_of_policy, unless_own, outcome_of_pending_end, outcome_of_arrived, outcome_of_arrival, outcome_of_registered, outcome_of_registration, outcome_of_bulk, outcome_of_phaser_row}
use Rattle.machine_scene.specs.BarrierRows.{is_run_by, is_run_by_another, unless_busy, unless_runner, outcome_of_entered, outcome_of_await_at, outcome_of_barrier_row}
use Rattle.machine_scene.specs.Waits.{outcome_of_awaited, outcome_of_phase_wait, outcome_of_release, outcome_of_barrier_wait, outcome_of_phase_timeout, outcome_of_barrier_timeout}
use Rattle.machine_scene.specs.Outcomes.{outcome_in_group, outcome_in, outcome_of, outcome_of_expiry, is_ready, timeout_in}
use Rattle.machine_scene.specs.Sound.{IsSound, awaits, is_wait_row}
use Rattle.machine_scene.proofs.{Plain.either, Plain.StandsAt, BarrierRows.seat, CallRows.can_turn_on_top, Facts.top_named}
use Rattle.machine_scene.proofs.Outcomes.{stands_at}
use Rattle.headline.specs.Pasts.{BarrierCall, Enter, EndAction, Leave, Interrupt, Expire, IsInAction, MakesBarrierCall, MakesNone}
use Rattle.headline.specs.PhaseEnds.{answer_of_ret, row_in}
use Rattle.headline.proofs.BarrierCalls.{GoesTo, nowhere, goes_entered, goes_ended, goes_left, goes_interrupted, goes_expired, goes_reset}
use Rattle.headline.proofs.TreeCalls.{AsksPolicy, IsQuiet, TreesGo, trees_stay, trees_registered, trees_forced, trees_counted, trees_advanced, trees_ended}

-- the scene that an outcome leaves; without one it stays
abbrev pub scene_after : Option Outcome → Scene → Scene
scene_after (Some outcome) scene = outcome.scene
scene_after None scene = scene

-- what an outcome shows; without one the choice is idle
abbrev pub shown_by : Option Outcome → What
shown_by (Some outcome) = outcome.event.what
shown_by None = what.Idle

-- the past of each barrier stays or goes on by a call of the thread, and the trees go on as they may at this row
abbrev pub GoIf : Option Row → (expiry : Bool) → ℕ → Scene → Option Outcome → Type 0
GoIf row expiry t scene outcome =
    ((b : ℕ) → GoesTo (shown_by outcome) (MakesBarrierCall row expiry t (thread_at scene t) b) (barrier_at scene b) (barrier_at (scene_after outcome scene) b))
    × TreesGo row (thread_at scene t) scene.phasers (scene_after outcome scene).phasers

-- whatever call there is to be made at barrier b, with a past that leads to it, this is so
abbrev AtEachCall : Option Row → (expiry : Bool) → ℕ → Scene → (ℕ → Type 0) → Type 0
AtEachCall row expiry t scene so =
    (b : ℕ) (past : PlainBarrier) → IsStateAfter (barrier_at scene b) past → (call : BarrierCall)
    → MakesBarrierCall row expiry t (thread_at scene t) b past call → so b

-- no call is to be made
abbrev MakesNoCall : Option Row → (expiry : Bool) → ℕ → Scene → Type 0
MakesNoCall row expiry t scene = AtEachCall row expiry t scene (λ b. ⊥)

none_made : (row : Option Row) (expiry : Bool) (t : ℕ) (scene : Scene) (shown : What) → MakesNoCall row expiry t scene → AtEachCall row expiry t scene (λ b. MakesNone shown)
none_made row expiry t scene shown none b past leads call made = absurd (none b past leads call made)

-- the barriers stay
aside : {row : Option Row} {after : List PhaserState} (expiry : Bool) (shown : What) (t : ℕ) (scene : Scene) → AtEachCall row expiry t scene (λ b. MakesNone shown)
    → TreesGo row (thread_at scene t) scene.phasers after
    → ((b : ℕ) → GoesTo shown (MakesBarrierCall row expiry t (thread_at scene t) b) (barrier_at scene b) (barrier_at scene b))
    × TreesGo row (thread_at scene t) scene.phasers after
aside {row = row} expiry shown t scene none goes =
    (λ b. nowhere shown (MakesBarrierCall row expiry t (thread_at scene t) b) (barrier_at scene b) (none b), goes)

-- and so do the trees
stay : {row : Option Row} (expiry : Bool) (shown : What) (t : ℕ) → IsQuiet row → (scene : Scene) → AtEachCall row expiry t scene (λ b. MakesNone shown)
    → ((b : ℕ) → GoesTo shown (MakesBarrierCall row expiry t (thread_at scene t) b) (barrier_at scene b) (barrier_at scene b))
    × TreesGo row (thread_at scene t) scene.phasers scene.phasers
stay {row = row} expiry shown t quiet scene none =
    aside {row = row} expiry shown t scene none (trees_stay row (thread_at scene t) scene.phasers quiet)

-- a choice that makes no call, and leaves the trees as they are
rest : {row : Option Row} (expiry : Bool) (shown : What) (t : ℕ) → IsQuiet row → (scene : Scene) → MakesNoCall row expiry t scene
    → ((b : ℕ) → GoesTo shown (MakesBarrierCall row expiry t (thread_at scene t) b) (barrier_at scene b) (barrier_at scene b))
    × TreesGo row (thread_at scene t) scene.phasers scene.phasers
rest {row = row} expiry shown t quiet scene none = stay {row = row} expiry shown t quiet scene (none_made row expiry t scene shown none)

-- an idle one
idles : {row : Option Row} (expiry : Bool) (t : ℕ) → IsQuiet row → (scene : Scene)
    → ((b : ℕ) → GoesTo what.Idle (MakesBarrierCall row expiry t (thread_at scene t) b) (barrier_at scene b) (barrier_at scene b))
    × TreesGo row (thread_at scene t) scene.phasers scene.phasers
idles {row = row} expiry t quiet scene = stay {row = row} expiry what.Idle t quiet scene (λ b past leads call made. record { held = tt })

-- only at barrier b a call is to be made
abbrev CallsAt : Option Row → (expiry : Bool) → ℕ → Scene → ℕ → Type 0
CallsAt row expiry t scene b = AtEachCall row expiry t scene (λ c. c ≡ b)

put : (shown : What) (makes : ℕ → PlainBarrier → BarrierCall → Type 0) (barriers : List BarrierState) (b : ℕ) (gate : BarrierState)
    → b < length barriers
    → ((c : ℕ) (past : PlainBarrier) → IsStateAfter (slice_index_or barriers c (fresh 1 false)) past → (call : BarrierCall) → makes c past call → c ≡ b)
    → GoesTo shown (makes b) (slice_index_or barriers b (fresh 1 false)) gate → (c : ℕ)
    → GoesTo shown (makes c) (slice_index_or barriers c (fresh 1 false)) (slice_index_or (slice_set barriers b gate) c (fresh 1 false))
put shown makes [] b gate here only goes c = absurd (omega (arith, here))
put shown makes (x ∷ barriers) zero gate here only goes zero = goes
put shown makes (x ∷ barriers) zero gate here only goes (suc c) =
    nowhere shown (makes (suc c)) (slice_index_or barriers c (fresh 1 false)) (λ past leads call made. absurd (cc (only (suc c) past leads call made)))
put shown makes (x ∷ barriers) (suc b) gate here only goes zero =
    nowhere shown (makes zero) x (λ past leads call made. absurd (cc (only zero past leads call made)))
put shown makes (x ∷ barriers) (suc b) gate here only goes (suc c) =
    put shown (λ n. makes (suc n)) barriers b gate (omega (arith, here))
    (λ n past leads call made. let is = only (suc n) past leads call made in omega (arith, is)) goes c

at_gate : {row : Option Row} (expiry : Bool) (shown : What) (t : ℕ) → IsQuiet row → (b : ℕ) (scene : Scene) (gate : BarrierState) → b < length scene.barriers
    → CallsAt row expiry t scene b → GoesTo shown (MakesBarrierCall row expiry t (thread_at scene t) b) (barrier_at scene b) gate
    → ((c : ℕ) → GoesTo shown (MakesBarrierCall row expiry t (thread_at scene t) c) (barrier_at scene c) (barrier_at (with_barrier gate b scene) c))
    × TreesGo row (thread_at scene t) scene.phasers scene.phasers
at_gate {row = row} expiry shown t quiet b scene gate here only goes = (
  λ c. put shown (MakesBarrierCall row expiry t (thread_at scene t)) scene.barriers b gate here only goes c,
  trees_stay row (thread_at scene t) scene.phasers quiet,
)

-- `ret` makes a call where an action is on top of the stack; any other row beside those at barriers makes none
abbrev is_ret : Row → Bool
is_ret Ret = true
is_ret _ = false

none_of : (row : Row) → group_of row ≢ Barriers → is_ret row ≡ false → (t : ℕ) (scene : Scene) → MakesNoCall (Some row) false t scene
none_of (Cawait into b) other isnt t scene c past leads call made = other refl
none_of (Cawaitt into b time) other isnt t scene c past leads call made = other refl
none_of (Creset b) other isnt t scene c past leads call made = other refl
none_of Ret other isnt t scene c past leads call made = cc isnt
none_of _ other isnt t scene c past leads call made = made

not_ret : (row : Row) → group_of row ≢ Calls → is_ret row ≡ false
not_ret Ret other = absurd (other refl)
not_ret _ other = refl

-- the barrier of an action
abbrev action_in : Option Frame → ℕ
action_in (Some (frame.Action b registers back)) = b
action_in _ = 0

-- rows

own_row : (row : Row) (t : ℕ) (scene : Scene) → IsQuiet (Some row) → MakesNoCall (Some row) false t scene
    → GoIf (Some row) false t scene (outcome_of_own_row row t scene)
own_row Halt t scene quiet none = rest false _ t quiet scene none
own_row _ t scene quiet none = rest false _ t quiet scene none

-- `ret` out of a routine: the phase ends, or the tree was terminated meanwhile
routine_end : (ended : Bool) (program : Program) (steps t root back : ℕ) (registers : List ℤ) (manner : Manner) (scene : Scene)
    (left : ThreadState) → (flat_at scene.phasers root).ended ≡ ended → StandsAt program steps t scene status.Runs Ret
    → top_of (thread_at scene t).stack ≡ Some (frame.Advance root registers back)
    → GoIf (Some Ret) false t scene
    (Some (outcome_of_routine_end ended manner root (not (int_eq (value_in (thread_at scene t).registers R0) (pos 0))) t (with_thread left t scene)))
routine_end true program steps t root back registers manner scene left is stands top =
    rest false _ t tt scene (λ b past leads call made. cc (top, made.0.1.1))
routine_end false program steps t root back registers manner scene left is stands top =
    let thread = thread_at scene t in
    let says : Option Bool = Some (not (int_eq (value_in thread.registers R0) (pos 0))) in
    aside false _ t scene (none_made (Some Ret) false t scene _ (λ b past leads call made. cc (top, made.0.1.1))) (trees_ended (Some Ret) thread root _ scene.phasers scene.phasers tt
    (can_turn_on_top program steps t root back registers scene stands.sound stands.few stands.there top is) refl (λ id. refl) (λ id. refl)
    (λ id. refl) stands.sound.trees.stands.1.steady
    (ap (λ top. answer_of_ret top root thread) top ∙ ap (λ b. if b then says else None) (same-is root)) (λ prompt. prompt))

ret : (top : Option Frame) (program : Program) (steps t : ℕ) (scene : Scene) → StandsAt program steps t scene status.Runs Ret
    → top_of (thread_at scene t).stack ≡ top → GoIf (Some Ret) false t scene (Some (outcome_of_ret top t program scene))
ret (Some (frame.Advance root registers back)) program steps t scene stands is =
    routine_end (flat_at scene.phasers root).ended program steps t root back registers _ scene _ refl stands is
ret (Some (frame.Action b registers back)) program steps t scene stands is =
    at_gate false _ t tt b scene _ (top_named program steps scene t (frame.Action b registers back) stands.sound stands.there is).1
    (λ c past leads call made. ap action_in (sym made.0.1.1 ∙ is))
    (goes_ended _ (MakesBarrierCall (Some Ret) false t (thread_at scene t) b) true (barrier_at scene b) (λ past. ((registers, (back, is)), refl)))
ret _ program steps t scene stands is = rest false _ t tt scene (λ b past leads call made. cc (is, made.0.1.1))

call_row : (row : Row) (program : Program) (steps t : ℕ) (scene : Scene) → IsQuiet (Some row)
    → (is_ret row ≡ false → MakesNoCall (Some row) false t scene)
    → StandsAt program steps t scene status.Runs row → GoIf (Some row) false t scene (outcome_of_call_row row t program scene)
call_row Ret program steps t scene quiet none stands = ret (top_of (thread_at scene t).stack) program steps t scene stands refl
call_row _ program steps t scene quiet none stands = rest false _ t quiet scene (none refl)

data_row : (row : Row) (t : ℕ) (scene : Scene) → IsQuiet (Some row) → MakesNoCall (Some row) false t scene
    → GoIf (Some row) false t scene (outcome_of_data_row row t scene)
data_row (Out value) t scene quiet none = rest false _ t quiet scene none
data_row _ t scene quiet none = rest false _ t quiet scene none

getter_row : (row : Row) (t : ℕ) (scene : Scene) → IsQuiet (Some row) → MakesNoCall (Some row) false t scene
    → GoIf (Some row) false t scene (outcome_of_getter_row row t scene)
getter_row (Pphase into p) t scene quiet none = rest false _ t quiet scene none
getter_row _ t scene quiet none = rest false _ t quiet scene none

-- rows at phasers

in_registered : (row : Row) (answer : Registered) (into : Reg) (t : ℕ) (scene : Scene) (phasers : List PhaserState)
    → IsQuiet (Some row) → MakesNoCall (Some row) false t scene → TreesGo (Some row) (thread_at scene t) scene.phasers phasers
    → GoIf (Some row) false t scene (outcome_of_registered answer into t (with_phasers phasers scene))
in_registered row registered.Held into t scene phasers quiet none goes = idles false t quiet scene
in_registered row (registered.At phase) into t scene phasers quiet none goes = aside false _ t scene (none_made (Some row) false t scene _ none) goes
in_registered row (registered.Dead view) into t scene phasers quiet none goes = aside false _ t scene (none_made (Some row) false t scene _ none) goes
in_registered row registered.TooMany into t scene phasers quiet none goes = aside false _ t scene (none_made (Some row) false t scene _ none) goes

in_registration : (row : Row) (into : Reg) (p count t : ℕ) (scene : Scene) → IsQuiet (Some row) → MakesNoCall (Some row) false t scene
    → GoIf (Some row) false t scene (outcome_of_registration into p count t scene)
in_registration row into p count t scene quiet none = search (rules, in_registered, trees_registered)

-- an arrival at phaser p by a thread that stands at this row
in_turning : (answer : Option Bool) (row : Row) (program : Program) (steps t p : ℕ) (manner : Manner) (scene : Scene) (root : PhaserId)
    (phase : ℤ) (parties : ℕ) → IsQuiet (Some row) → MakesNoCall (Some row) false t scene → AsksPolicy (Some row) (thread_at scene t) p scene.phasers → StandsAt program steps t scene status.Runs row
    → p < length scene.phasers → (arrival p manner.leaves scene.phasers).answer ≡ arrived.Turning root phase parties
    → let after = with_phasers (arrival p manner.leaves scene.phasers).phasers scene in
    answer_of_policy root.0 after ≡ answer → GoIf (Some row) false t scene (Some (outcome_of_pending_end answer manner root.0 phase t program after))
in_turning (Some over) row program steps t p manner scene root phase parties quiet none asks stands there is says =
    aside false _ t scene (none_made (Some row) false t scene _ none) (trees_advanced (Some row) (thread_at scene t) steps p manner.leaves scene.phasers root phase parties over quiet asks
    stands.sound.trees stands.few there is says)
in_turning None row program steps t p manner scene root phase parties quiet none asks stands there is says =
    aside false _ t scene (none_made (Some row) false t scene _ none) (trees_counted (Some row) (thread_at scene t) p manner.leaves scene.phasers quiet)

in_arrived : (answer : Arrived) (row : Row) (program : Program) (steps t p : ℕ) (manner : Manner) (scene : Scene)
    → IsQuiet (Some row) → MakesNoCall (Some row) false t scene → AsksPolicy (Some row) (thread_at scene t) p scene.phasers → StandsAt program steps t scene status.Runs row → p < length scene.phasers
    → (arrival p manner.leaves scene.phasers).answer ≡ answer
    → GoIf (Some row) false t scene
    (Some (outcome_of_arrived answer manner t program (with_phasers (arrival p manner.leaves scene.phasers).phasers scene)))
in_arrived (arrived.Turning root phase parties) row program steps t p manner scene quiet none asks stands there is =
    in_turning (answer_of_policy root.0 (with_phasers (arrival p manner.leaves scene.phasers).phasers scene)) row program steps t p manner
    scene root phase parties quiet none asks stands there is refl
in_arrived _ row program steps t p manner scene quiet none asks stands there is =
    aside false _ t scene (none_made (Some row) false t scene _ none) (trees_counted (Some row) (thread_at scene t) p manner.leaves scene.phasers quiet)

in_unless_own : (row : Row) (p t : ℕ) (scene : Scene) (outcome : Option Outcome) → IsQuiet (Some row) → MakesNoCall (Some row) false t scene
    → GoIf (Some row) false t scene outcome → GoIf (Some row) false t scene (unless_own p t scene outcome)
in_unless_own row p t scene outcome quiet none goes =
    either (GoIf (Some row) false t scene) (is_own_tree p (thread_at scene t) scene) {b = outcome} (rest false _ t quiet scene none) goes

in_arrival : (row : Row) (program : Program) (steps t p : ℕ) (manner : Manner) (scene : Scene)
    → IsQuiet (Some row) → MakesNoCall (Some row) false t scene → AsksPolicy (Some row) (thread_at scene t) p scene.phasers → StandsAt program steps t scene status.Runs row → p < length scene.phasers
    → GoIf (Some row) false t scene (unless_own p t scene (Some (outcome_of_arrival manner p t program scene)))
in_arrival row program steps t p manner scene quiet none asks stands there =
    in_unless_own row p t scene (Some (outcome_of_arrival manner p t program scene)) quiet none
    (either (λ (outcome : Outcome). GoIf (Some row) false t scene (Some outcome)) (has_routine p scene && is_full (thread_at scene t))
    (rest false _ t quiet scene none)
    (in_arrived (arrival p manner.leaves scene.phasers).answer row program steps t p manner scene quiet none asks stands there refl))

in_bulk : (row : Row) (into : Reg) (p : ℕ) (count : ℤ) (t : ℕ) (scene : Scene) → IsQuiet (Some row) → MakesNoCall (Some row) false t scene
    → GoIf (Some row) false t scene (outcome_of_bulk into p count t scene)
in_bulk row into p count t scene quiet none =
    either (GoIf (Some row) false t scene) (int_lt count (pos 0)) {b = outcome_of_registration into p (nat_abs count) t scene} (rest false _ t quiet scene none)
    (in_registration row into p (nat_abs count) t scene quiet none)

phaser_row : (row : Row) (program : Program) (steps t : ℕ) (scene : Scene) → StandsAt program steps t scene status.Runs row
    → GoIf (Some row) false t scene (outcome_of_phaser_row row t program scene)
phaser_row (Preg into p) program steps t scene stands =
    in_unless_own _ p t scene _ tt (λ b past leads call made. made) (in_registration _ into p 1 t scene tt (λ b past leads call made. made))
phaser_row (Pbulk into p count) program steps t scene stands =
    in_unless_own _ p t scene _ tt (λ b past leads call made. made) (in_bulk _ into p (value_in (thread_at scene t).registers count) t scene tt (λ b past leads call made. made))
phaser_row (Parr into p) program steps t scene stands =
    in_arrival (Parr into p) program steps t p _ scene tt (λ b past leads call made. made) (λ parties. refl) stands stands.named
phaser_row (Pdereg into p) program steps t scene stands =
    in_arrival (Pdereg into p) program steps t p _ scene tt (λ b past leads call made. made) (λ parties. refl) stands stands.named
phaser_row (Paaa into p) program steps t scene stands =
    in_arrival (Paaa into p) program steps t p _ scene tt (λ b past leads call made. made) (λ parties. refl) stands stands.named
phaser_row (Pawait into p phase) program steps t scene stands =
    in_unless_own _ p t scene (Some _) tt (λ b past leads call made. made) (rest false _ t tt scene (λ b past leads call made. made))
phaser_row (Pawaiti into p phase) program steps t scene stands =
    in_unless_own _ p t scene (Some _) tt (λ b past leads call made. made) (rest false _ t tt scene (λ b past leads call made. made))
phaser_row (Pawaitt into p phase time) program steps t scene stands =
    in_unless_own _ p t scene (Some _) tt (λ b past leads call made. made) (rest false _ t tt scene (λ b past leads call made. made))
phaser_row (Pforce p) program steps t scene stands =
    aside false _ t scene (none_made (Some (Pforce p)) false t scene _ (λ b past leads call made. made)) (trees_forced (thread_at scene t) p scene.phasers stands.sound.trees.forest stands.named)
phaser_row _ program steps t scene stands = idles false t tt scene

-- rows at barriers

in_entered : (row : Row) (answer : Entered) (into : Reg) (b t : ℕ) (program : Program) (scene : Scene) (gate : BarrierState)
    → IsQuiet (Some row) → b < length scene.barriers → CallsAt (Some row) false t scene b
    → ((shown : What) → GoesTo shown (MakesBarrierCall (Some row) false t (thread_at scene t) b) (barrier_at scene b) gate)
    → GoIf (Some row) false t scene (outcome_of_entered answer into b t program (with_barrier gate b scene))
in_entered row entered.Busy into b t program scene gate quiet here only goes = idles false t quiet scene
in_entered row _ into b t program scene gate quiet here only goes = at_gate false _ t quiet b scene gate here only (goes _)

-- thread t has a seat at barrier b, and no wait there
abbrev MayEnter : ℕ → ℕ → Scene → Type 0
MayEnter b t scene = (t < length (barrier_at scene b).waits) × (wait_at (barrier_at scene b).waits t ≡ None)

in_await : (row : Row) (no_wait : Bool) (into : Reg) (b t : ℕ) (program : Program) (scene : Scene) → IsQuiet (Some row) → MayEnter b t scene
    → b < length scene.barriers → CallsAt (Some row) false t scene b
    → ((past : PlainBarrier) → MakesBarrierCall (Some row) false t (thread_at scene t) b past (Enter t (thread_at scene t).interrupted no_wait))
    → GoIf (Some row) false t scene (outcome_of_await_at no_wait into b t program scene)
in_await row no_wait into b t program scene quiet may here only made =
    let gate = barrier_at scene b in
    let all : Entry = enter_timed t (thread_at scene t).interrupted no_wait gate in
    either (GoIf (Some row) false t scene) (gate.action && is_full (thread_at scene t))
    {b = outcome_of_entered all.answer into b t program (with_barrier all.barrier b scene)}
    (stay false _ t quiet scene (λ c past leads call due. record { held = inr refl }))
    (in_entered row all.answer into b t program scene all.barrier quiet here only
    (λ shown. goes_entered shown (MakesBarrierCall (Some row) false t (thread_at scene t) b) t (thread_at scene t).interrupted no_wait gate made may.0 may.1))

in_unless_busy : (row : Row) (b t : ℕ) (scene : Scene) (outcome : Option Outcome) → IsQuiet (Some row) → GoIf (Some row) false t scene outcome
    → GoIf (Some row) false t scene (unless_busy b t scene outcome)
in_unless_busy row b t scene outcome quiet goes =
    either (GoIf (Some row) false t scene) (is_run_by_another t (barrier_at scene b).runner) {a = None} {b = outcome} (idles false t quiet scene) goes

in_unless_runner : (row : Row) (b t : ℕ) (scene : Scene) (outcome : Option Outcome) → IsQuiet (Some row) → GoIf (Some row) false t scene outcome
    → GoIf (Some row) false t scene (unless_runner b t scene outcome)
in_unless_runner row b t scene outcome quiet goes =
    either (GoIf (Some row) false t scene) (is_run_by t (barrier_at scene b).runner) {b = outcome}
    (stay false _ t quiet scene (λ c past leads call due. record { held = inl refl })) goes

-- thread t may enter each barrier that is there
abbrev MayEnterAny : ℕ → Scene → Type 0
MayEnterAny t scene = (b : ℕ) → b < length scene.barriers → MayEnter b t scene

barrier_row : (row : Row) (t : ℕ) (program : Program) (scene : Scene) → IsQuiet (Some row) → IsNamed (counts_of program scene) row → MayEnterAny t scene
    → GoIf (Some row) false t scene (outcome_of_barrier_row row t program scene)
barrier_row (Cawait into b) t program scene quiet named may =
    in_unless_busy _ b t scene _ quiet (in_unless_runner _ b t scene _ quiet
    (in_await _ false into b t program scene quiet (may b named) named (λ c past leads call made. sym made.0) (λ past. (refl, refl))))
barrier_row (Cawaitt into b time) t program scene quiet named may =
    in_unless_busy _ b t scene _ quiet (in_unless_runner _ b t scene _ quiet
    (in_await _ _ into b t program scene quiet (may b named) named (λ c past leads call made. sym made.0) (λ past. (refl, refl))))
barrier_row (Creset b) t program scene quiet named may =
    in_unless_busy _ b t scene _ quiet (in_unless_runner _ b t scene (Some _) quiet
    (at_gate false _ t quiet b scene _ named (λ c past leads call made. sym made.0)
    (goes_reset _ (MakesBarrierCall (Some (Creset b)) false t (thread_at scene t) b) (barrier_at scene b) (λ past. (refl, refl)))))
barrier_row (Cbroken into b) t program scene quiet named may = in_unless_busy _ b t scene (Some _) quiet (rest false _ t quiet scene (λ b past leads call made. made))
barrier_row (Cwaiting into b) t program scene quiet named may =
    in_unless_busy _ b t scene _ quiet (in_unless_runner _ b t scene (Some _) quiet (rest false _ t quiet scene (λ b past leads call made. made)))
barrier_row (Cparties into b) t program scene quiet named may = rest false _ t quiet scene (λ b past leads call made. made)
barrier_row _ t program scene quiet named may = idles false t quiet scene

-- turns of threads that don't run

no_wait : (wait : Option WaitState) → is_some wait ≡ false → wait ≡ None
no_wait wait is = grind arith

-- a thread that waits at no barrier has no wait in any of its pasts
none_there : (program : Program) (steps t : ℕ) (scene : Scene) (of : Status) (row : Row) → StandsAt program steps t scene of row
    → (b : ℕ) → awaits b of row ≡ false → (past : PlainBarrier) → IsStateAfter (barrier_at scene b) past → state_of t past ≡ None
none_there program steps t scene of row stands b free past leads =
    leads.waits t ∙ no_wait (wait_at (barrier_at scene b).waits t)
    (stands.sound.waits b t ∙ ap (λ (state : Status). awaits b state (row_at program.rows (thread_at scene t).pc)) stands.status
    ∙ ap (awaits b of) stands.at ∙ free)

isnt : {A : Type 0} (wait : Option A) {one other : A} → wait ≡ None → (wait ≡ Some one) ⊎ (wait ≡ Some other) → ⊥
isnt wait none (inl is) = cc (none, is)
isnt wait none (inr is) = cc (none, is)

-- without a row, a thread that has no wait makes only the call of an action that it throws out of
only_ends : (expiry : Bool) (t b : ℕ) (thread : ThreadState) (past : PlainBarrier) → state_of t past ≡ None → (call : BarrierCall)
    → MakesBarrierCall None expiry t thread b past call → IsInAction b thread × ((code : ℤ) × (thread.status ≡ status.Throws code))
only_ends false t b thread past none (EndAction false) made = made
only_ends false t b thread past none (Leave u) made = absurd (isnt (state_of t past) none made.1)
only_ends false t b thread past none (Interrupt u) made = absurd (cc (none, made.1.1))
only_ends true t b thread past none (Expire u) made = absurd (cc (none, made.1))
only_ends _ t b thread past none _ made = absurd made

in_popped : (top : Option Frame) (code : ℤ) (program : Program) (steps t : ℕ) (scene : Scene) (row : Row)
    → StandsAt program steps t scene (status.Throws code) row → top_of (thread_at scene t).stack ≡ top
    → GoIf None false t scene (Some (outcome_of_popped top code t scene))
in_popped (Some (frame.Action b registers back)) code program steps t scene row stands is =
    at_gate false _ t tt b scene _ (top_named program steps scene t (frame.Action b registers back) stands.sound stands.there is).1
    (λ c past leads call made. let ends = only_ends false t c (thread_at scene t) past
    (none_there program steps t scene (status.Throws code) row stands c refl past leads) call made in ap action_in (sym ends.0.1.1 ∙ is))
    (goes_ended _ (MakesBarrierCall None false t (thread_at scene t) b) false (barrier_at scene b) (λ past. ((registers, (back, is)), (code, stands.status))))
in_popped _ code program steps t scene row stands is =
    rest false _ t tt scene (λ c past leads call made. let ends = only_ends false t c (thread_at scene t) past
    (none_there program steps t scene (status.Throws code) row stands c refl past leads) call made in cc (is, ends.0.1.1))

in_awaited : (looks : Bool) (into : Reg) (p : ℕ) (phase : ℤ) (t : ℕ) (scene : Scene) → MakesNoCall None false t scene
    → GoIf None false t scene (outcome_of_awaited looks into p phase t scene)
in_awaited looks into p phase t scene none =
    either (GoIf None false t scene) (is_past p phase scene) (rest false _ t tt scene none)
    (either (GoIf None false t scene) (looks && (thread_at scene t).interrupted) {b = None} (rest false _ t tt scene none) (idles false t tt scene))

in_phase_wait : (row : Row) (phase : ℤ) (t : ℕ) (scene : Scene) → MakesNoCall None false t scene
    → GoIf None false t scene (outcome_of_phase_wait row phase t scene)
in_phase_wait (Paaa into p) phase t scene none = in_awaited false into p phase t scene none
in_phase_wait (Pawait into p number) phase t scene none = in_awaited false into p phase t scene none
in_phase_wait (Pawaiti into p number) phase t scene none = in_awaited true into p phase t scene none
in_phase_wait (Pawaitt into p number time) phase t scene none = in_awaited true into p phase t scene none
in_phase_wait _ phase t scene none = idles false t tt scene

-- with the result of a test
either_so : {A : Type 0} (P : A → Type 0) (test : Bool) {a b : A} → (test ≡ true → P a) → (test ≡ false → P b) → P (if test then a else b)
either_so P true p q = p refl
either_so P false p q = q refl

in_release : (wait : Option WaitState) (into : Reg) (index : ℤ) (b t : ℕ) (scene : Scene) → t < length (barrier_at scene b).waits
    → b < length scene.barriers → CallsAt None false t scene b → wait_at (barrier_at scene b).waits t ≡ wait
    → GoIf None false t scene (outcome_of_release wait into index b t scene)
in_release (Some state.Tripped) into index b t scene there here only is =
    at_gate false _ t tt b scene _ here only
    (goes_left _ (MakesBarrierCall None false t (thread_at scene t) b) t (barrier_at scene b) there (inl is) (λ past over. (refl, over)))
in_release (Some state.Broken) into index b t scene there here only is =
    at_gate false _ t tt b scene _ here only
    (goes_left _ (MakesBarrierCall None false t (thread_at scene t) b) t (barrier_at scene b) there (inr is) (λ past over. (refl, over)))
in_release (Some state.Waiting) into index b t scene there here only is =
    let interrupted = (thread_at scene t).interrupted in
    either_so (GoIf None false t scene) (interrupted && not (is_some (barrier_at scene b).runner)) {b = None}
    (λ so. at_gate false _ t tt b scene _ here only
    (goes_interrupted _ (MakesBarrierCall None false t (thread_at scene t) b) t (barrier_at scene b) there is (λ past waits. (refl, ((and_parts interrupted _ so).0, waits)))))
    (λ other. idles false t tt scene)
in_release None into index b t scene there here only is = idles false t tt scene

-- thread t has a seat at each barrier that is there
abbrev HasSeats : ℕ → Scene → Type 0
HasSeats t scene = (b : ℕ) → b < length scene.barriers → t < length (barrier_at scene b).waits

in_barrier_wait : (row : Row) (index : ℤ) (t : ℕ) (program : Program) (scene : Scene) → IsNamed (counts_of program scene) row → HasSeats t scene
    → AtEachCall None false t scene (λ b. is_wait_row b row ≡ true) → GoIf None false t scene (outcome_of_barrier_wait row index t scene)
in_barrier_wait (Cawait into b) index t program scene named seats only =
    in_release (wait_at (barrier_at scene b).waits t) into index b t scene (seats b named) named
    (λ c past leads call made. sym (eqb-true b c (only c past leads call made))) refl
in_barrier_wait (Cawaitt into b time) index t program scene named seats only =
    in_release (wait_at (barrier_at scene b).waits t) into index b t scene (seats b named) named
    (λ c past leads call made. sym (eqb-true b c (only c past leads call made))) refl
in_barrier_wait _ index t program scene named seats only = idles false t tt scene

in_phase_timeout : (row : Row) (t : ℕ) (scene : Scene) → MakesNoCall None true t scene → GoIf None true t scene (outcome_of_phase_timeout row t scene)
in_phase_timeout (Pawaitt into p number time) t scene none = rest true _ t tt scene none
in_phase_timeout _ t scene none = idles true t tt scene

-- a wait that would end otherwise is not left to its time
still_waits : (wait : Option WaitState) (into : Reg) (index : ℤ) (b t : ℕ) (scene : Scene)
    → is_some (outcome_of_release wait into index b t scene) ≡ false → is_some wait ≡ true → wait ≡ Some state.Waiting
still_waits (Some state.Waiting) into index b t scene unready some = refl
still_waits None into index b t scene unready some = absurd (cc some)
still_waits _ into index b t scene unready some = absurd (cc unready)

in_barrier_timeout : (row : Row) (index : ℤ) (t : ℕ) (program : Program) (scene : Scene) → IsNamed (counts_of program scene) row
    → HasSeats t scene → ((b : ℕ) → has_wait t (barrier_at scene b) ≡ is_wait_row b row)
    → AtEachCall None true t scene (λ b. is_wait_row b row ≡ true)
    → is_some (outcome_of_barrier_wait row index t scene) ≡ false → GoIf None true t scene (outcome_of_barrier_timeout row t scene)
in_barrier_timeout (Cawaitt into b time) index t program scene named seats waits only unready =
    let wait = wait_at (barrier_at scene b).waits t in
    either (GoIf None true t scene) (is_some (barrier_at scene b).runner) {a = None} (idles true t tt scene)
    (at_gate true _ t tt b scene _ named (λ c past leads call made. sym (eqb-true b c (only c past leads call made)))
    (goes_expired _ (MakesBarrierCall None true t (thread_at scene t) b) t (barrier_at scene b) (seats b named) (still_waits wait into index b t scene unready (waits b ∙ same-is b))
    (λ past still. (refl, still))))
in_barrier_timeout _ index t program scene named seats waits only unready = idles true t tt scene

-- all of them

-- `pforce` is a row at a phaser
quiet_beside : (row : Row) → group_of row ≢ Phasers → IsQuiet (Some row)
quiet_beside row other = grind arith

none_beside : (row : Row) (t : ℕ) (scene : Scene) → group_of row ≢ Barriers → group_of row ≢ Calls → MakesNoCall (Some row) false t scene
none_beside row t scene gate call = none_of row gate (not_ret row call) t scene

in_group : (group : Group) (row : Row) (program : Program) (steps t : ℕ) (scene : Scene) → group_of row ≡ group → StandsAt program steps t scene status.Runs row
    → MayEnterAny t scene → GoIf (Some row) false t scene (outcome_in_group group row t program scene)
in_group Own row program steps t scene is stands may =
    own_row row t scene (quiet_beside row (λ other. cc (is, other))) (none_beside row t scene (λ other. cc (is, other)) (λ other. cc (is, other)))
in_group Calls row program steps t scene is stands may =
    call_row row program steps t scene (quiet_beside row (λ other. cc (is, other))) (λ plain. none_of row (λ other. cc (is, other)) plain t scene) stands
in_group Data row program steps t scene is stands may =
    data_row row t scene (quiet_beside row (λ other. cc (is, other))) (none_beside row t scene (λ other. cc (is, other)) (λ other. cc (is, other)))
in_group Phasers row program steps t scene is stands may = phaser_row row program steps t scene stands
in_group Getters row program steps t scene is stands may =
    getter_row row t scene (quiet_beside row (λ other. cc (is, other))) (none_beside row t scene (λ other. cc (is, other)) (λ other. cc (is, other)))
in_group Barriers row program steps t scene is stands may = barrier_row row t program scene (quiet_beside row (λ other. cc (is, other))) stands.named may

-- a thread that runs has no wait
may_enter : (program : Program) (steps t : ℕ) (scene : Scene) (row : Row) → StandsAt program steps t scene status.Runs row → MayEnterAny t scene
may_enter program steps t scene row stands b here = grind (arith, seat, no_wait)

true_unless : (test : Bool) → (test ≡ false → ⊥) → test ≡ true
true_unless true so = refl
true_unless false so = absurd (so refl)

-- a thread that waits for a phase makes no call at a barrier
none_at_phase : (expiry : Bool) (program : Program) (steps t : ℕ) (scene : Scene) (phase : ℤ) (row : Row)
    → StandsAt program steps t scene (status.AwaitsPhase phase) row → MakesNoCall None expiry t scene
none_at_phase expiry program steps t scene phase row stands b past leads call made =
    let ends = only_ends expiry t b (thread_at scene t) past
    (none_there program steps t scene (status.AwaitsPhase phase) row stands b refl past leads) call made in
    cc (stands.status, ends.1.1)

-- one that waits at a barrier makes a call at that of its row
calls_at_row : (expiry : Bool) (program : Program) (steps t : ℕ) (scene : Scene) (index : ℤ) (row : Row)
    → StandsAt program steps t scene (status.AwaitsBarrier index) row → AtEachCall None expiry t scene (λ b. is_wait_row b row ≡ true)
calls_at_row expiry program steps t scene index row stands b past leads call made =
    true_unless (is_wait_row b row)
    (λ free. let ends = only_ends expiry t b (thread_at scene t) past
    (none_there program steps t scene (status.AwaitsBarrier index) row stands b free past leads) call made in
    cc (stands.status, ends.1.1))

in_turn : (of : Status) (row : Row) (program : Program) (steps t : ℕ) (scene : Scene) → StandsAt program steps t scene of row
    → GoIf (row_in of row) false t scene (outcome_in of row t program scene)
in_turn status.Runs row program steps t scene stands =
    in_group (group_of row) row program steps t scene refl stands (may_enter program steps t scene row stands)
in_turn (status.Throws code) row program steps t scene stands =
    in_popped (top_of (thread_at scene t).stack) code program steps t scene row stands refl
in_turn (status.AwaitsPhase phase) row program steps t scene stands =
    in_phase_wait row phase t scene (none_at_phase false program steps t scene phase row stands)
in_turn (status.AwaitsBarrier index) row program steps t scene stands =
    in_barrier_wait row index t program scene stands.named (λ b here. seat program steps t b scene stands.sound stands.there here)
    (calls_at_row false program steps t scene index row stands)
in_turn _ row program steps t scene stands = idles false t tt scene

in_timeout : (of : Status) (row : Row) (program : Program) (steps t : ℕ) (scene : Scene) → StandsAt program steps t scene of row
    → is_some (outcome_in of row t program scene) ≡ false → GoIf None true t scene (timeout_in of row t scene)
in_timeout (status.AwaitsPhase phase) row program steps t scene stands unready =
    in_phase_timeout row t scene (none_at_phase true program steps t scene phase row stands)
in_timeout (status.AwaitsBarrier index) row program steps t scene stands unready =
    in_barrier_timeout row index t program scene stands.named (λ b here. seat program steps t b scene stands.sound stands.there here)
    (λ b. stands.sound.waits b t ∙ ap (λ (of : Status). awaits b of (row_at program.rows (thread_at scene t).pc)) stands.status
    ∙ ap (is_wait_row b) stands.at) (calls_at_row true program steps t scene index row stands) unready
in_timeout _ row program steps t scene stands unready = idles true t tt scene

pub turn_goes : (program : Program) (steps t : ℕ) (scene : Scene) → IsSound program steps scene → steps < 2147483647
    → t < length scene.threads
    → GoIf (row_in (thread_at scene t).status (row_at program.rows (thread_at scene t).pc)) false t scene (outcome_of t program scene)
turn_goes program steps t scene sound few there =
    let thread = thread_at scene t in
    in_turn thread.status (row_at program.rows thread.pc) program steps t scene
    (stands_at program steps t scene thread.status sound few there refl)

pub expiry_goes : (program : Program) (steps t : ℕ) (scene : Scene) → IsSound program steps scene → steps < 2147483647
    → t < length scene.threads → GoIf None true t scene (outcome_of_expiry t program scene)
expiry_goes program steps t scene sound few there =
    let thread = thread_at scene t in
    either_so (GoIf None true t scene) (is_ready t program scene) {a = None} (λ ready. idles true t tt scene)
    (in_timeout thread.status (row_at program.rows thread.pc) program steps t scene
    (stands_at program steps t scene thread.status sound few there refl))
