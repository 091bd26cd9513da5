-- Where a run isn't over, some thread has a choice to make.
use Rattle.std.proofs.Common.{◌≡◌, ◌⊎◌, ◌<◌, ℕ, Bool, true, false, refl, arith, length, Option, None, ◌&&◌, ◌||◌, not}
use Rattle.std.proofs.lemmas.Bool.Decides.{nat_tests}
use Rattle.thread_machine.specs.{declared.choice.Choice.Choice, World.World, Ready.is_choice_ready, Ready.some_ready}
use Rattle.thread_runner.specs.{declared.live.Break.Break, Endings.ending_of, Waiting.leaves, Waiting.waits}
use Rattle.thread_runner.specs.Turns.{choice_in, expiry_of, is_ready_in, can_expire_in, some_turn, is_due, may_choose, IsDue}
use Rattle.thread_runner.proofs.Threads.{Lowest, lowest, none_passes, one_passes}

-- and there is a step left
pub step_left : (world : World) → ending_of world ≡ None → world.steps < world.limit
step_left world none = grind (arith, nat_tests, none)

-- and so has the lowest whose wait may run out, where none is ready
pub record Chooser (world : World) : Type 0 where
  pub at : ℕ
  pub there : at < length world.scene.threads
  pub chooses : may_choose world at ≡ true

by_expiry : (world : World) → some_ready world.program world.scene ≡ true
    → ((k : ℕ) → k < length world.scene.threads → is_ready_in world k ≡ false)
    → ((k : ℕ) → k < length world.scene.threads → can_expire_in world k ≡ false) ⊎ Lowest (can_expire_in world) (length world.scene.threads)
    → Chooser world
by_expiry world some none given = grind (arith, none_passes)

by_turn : (world : World) → some_ready world.program world.scene ≡ true
    → ((k : ℕ) → k < length world.scene.threads → is_ready_in world k ≡ false) ⊎ Lowest (is_ready_in world) (length world.scene.threads)
    → Chooser world
by_turn world some given = grind (arith, by_expiry, lowest)

pub chooser : (world : World) → ending_of world ≡ None → Chooser world
chooser world none = grind (arith, by_turn, lowest)

-- a worker that waits
waits_not_over : (broken : Option Break) (world : World) (t : ℕ) → waits broken world t ≡ true → ending_of world ≡ None
waits_not_over broken world t wait = grind arith

pub not_all_wait : (broken : Option Break) (world : World) → 0 < length world.scene.threads
    → ((t : ℕ) → t < length world.scene.threads → waits broken world t ≡ true) → ⊥
not_all_wait broken world some all =
    let found = chooser world (waits_not_over broken world 0 (all 0 some)) in
    grind arith

-- no time passes while a thread is ready
none_ready : (can turn lower : Bool) → (can && (not turn && not lower)) ≡ true → turn ≡ false
none_ready true true lower is = absurd (cc is)
none_ready true false lower is = refl
none_ready false turn lower is = absurd (cc is)

isnt_ready : (ready : Bool) (world : World) (t : ℕ) → is_ready_in world t ≡ ready → t < length world.scene.threads
    → some_turn world ≡ false → ready ≡ false
isnt_ready true world t is there none =
    absurd (cc (none, one_passes (is_ready_in world) (length world.scene.threads) t there is))
isnt_ready false world t is there none = refl

due_by : (ready due : Bool) → ready ≡ false → due ≡ true → (ready || due) ≡ true
due_by true due waits is = absurd (cc waits)
due_by false due waits is = is

pub due_by_expiry : (world : World) (t : ℕ) → t < length world.scene.threads → is_due world t ≡ true → IsDue world (expiry_of t)
due_by_expiry world t there is = grind (arith, isnt_ready, none_ready, due_by)

-- a worker that neither waits nor stops has a choice to make
chooses_by : (leaves may : Bool) → (not leaves && not may) ≡ false → leaves ≡ false → may ≡ true
chooses_by leaves true is stays = refl
chooses_by true false is stays = absurd (cc stays)
chooses_by false false is stays = absurd (cc is)

pub due_unless : (broken : Option Break) (world : World) (t : ℕ) (choice : Choice) → waits broken world t ≡ false
    → leaves broken world t ≡ false → choice ≡ choice_in world t → IsDue world choice
due_unless broken world t choice wait leave is =
    let may = chooses_by (leaves broken world t) (may_choose world t) wait leave in
    grind arith

-- a choice that a thread has to make is a step
waits_by : (ready due : Bool) → (ready || due) ≡ true → true ≡ not ready → due ≡ true
waits_by true due may is = absurd (cc is)
waits_by false due may is = may

pub due_is_ready : (world : World) (choice : Choice) → IsDue world choice → is_choice_ready world.program choice world.scene ≡ true
due_is_ready world choice due = grind (arith, waits_by)

-- so where the time of a wait is over no thread is ready
pub none_is_ready : (world : World) (waiting t : ℕ) → IsDue world (expiry_of waiting) → t < length world.scene.threads
    → is_ready_in world t ≡ false
none_is_ready world waiting t due there = grind (arith, waits_by, isnt_ready, none_ready)
