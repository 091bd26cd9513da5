-- THE HEADLINE. For every accepted program and every list of choices:
--   1. The machine that plays them is, up to the first that is refused, what the rows of the instruction table give, applied in
--      that order. This is the whole machine: each thread's row, registers, stack, output, status and interrupted status, the
--      cells, phasers and barriers, the counts of choices and of steps, and the limit (GivesTheRows).
--   2. No phase ends while a registered party has neither arrived nor left, unless an unregistered party has ever arrived in
--      that tree of phasers (EndsNoPhaseEarly). Parties have no names, as in Java. So an arrival is that of an unregistered
--      party only if none of the parties registered with that phaser is left to arrive. An arrival in place of another thread
--      is that of a registered party.
--      With the same exception, and in a tree that isn't terminated, the choice with which the last registered party arrives
--      or leaves ends the phase, or its thread enters the tree's routine. The `ret` out of the routine ends the phase, unless
--      the tree was terminated meanwhile (PhasesEndInTime). A routine that an exception leaves never ends it
--      (TerminationsAreSaid). In such a tree an arrival doesn't throw while a party registered with its phaser is left to
--      arrive, unless its thread runs the tree's routine or has no room on its stack to enter one (ArrivalsAreTaken).
--      A phase ends only if `onAdvance` returns a result, from a policy at an arrival in the tree or from a routine at its
--      `ret`, and never in a terminated tree. If the result is true, the tree is terminated. Java's default is true if it
--      gets 0 parties. With the same exception it gets 0 exactly if everybody who was registered has left. Force terminates
--      the tree, too, and ends no phase. Nothing else terminates it, and it stays terminated (TerminationsAreSaid). When a
--      phase of its tree ends, the phase of a phaser becomes the one after its root's. Nothing else changes it
--      (NumbersChangeAtEnds).
--   3. Each step back restores the state before (BackRestores, and for a single choice StepsAndReturns).
--   4. Each barrier has a past, and each state of the run is its record, so that a thread that waits there meets the end of its
--      own generation. The past continues by calls that the threads make by their rows, their stacks and their waits
--      (BarriersHavePasts).
-- 1 is what `play` leaves (src/machine.rt). 2 and 4 are laws (src/law.rt). 3 is what `step`, `take_back` and `step_and_back` do to
-- a machine, and `steps_and_backs` to a debugging session (src/back.rt). Each `use` line names the file that defines its names: to
-- believe this page, read those, too. What is below the machine is promised by calls of other crates, each in its own contract:
--   Trees whose words lag. A step gives what its row gives (`step` in src/trees.rt), no word lags far (`no_word_lags_far` there, and
--      the law `phases_are_few`), and each call at a tree does what it does without a lag, to the tree and to the counts of who is
--      registered and who is to arrive. tier_tree/src/forest.rt: `new`, `register`, `arrive`, `finish_turn`, `force`.
--      tier_tree/src/forest/declaration.rt: `declare`.
--   A live run of a loaded program, and the record that its lock protects. Its machine begins in the image's first state (the law
--      `programs_begin_as_their_images`). loader/src/loaded/loading.rt: `load`. thread_runner/src/runner.rt: `run_live`.
--      thread_runner/src/journaled.rt: `new`, `each_record_is_a_replay`, `machine`, `schedule`, `take_step`, `take_expiry`,
--      `into_parts`.
--   The word that real threads share: how it begins, its callers, its end, and its calls. After each call its caller has seen a
--      legal history (MakesCall): what it had seen, then calls of others, then its own call. Its own calls there are exactly those
--      that it has made. The histories of different callers aren't compared, but after `join` the first has seen one that begins
--      with what either had seen. After `close` the word is the last of one that begins with what the first caller had seen.
--      shared_phaser/src/phaser.rt: `new`, `split`, `join`, `close`. shared_phaser/src/calls.rt: `look`, `register_within`,
--      `arrive_within`, `force_within`. shared_phaser/src/waiting.rt: `register`, `arrive`, `arrive_and_deregister`, `force`,
--      `await_advance`, `arrive_and_await_advance`.
-- EndToEnd.antt, beside this file, says that the commands show this of what they read.
--
-- Of this crate, the program calls only `run`, `run_choices`, `live`, `list`, `compare` and the three of `debug` in src/shown.rt.
-- Its runs step with `Machine::step`, and its debugger with `Machine::step_into` and `Debugger::back`. The contracts of these
-- three promise the same of each choice as `step` and `take_back` (thread_machine/src/machine.rt, debugger/src/session.rt). A
-- session begins in a world whose phasers may be stored differently than those of `start`, which makes no difference
-- (StoredAlike). A law says that its world is at each line that of the choices played and not taken back, of which none is
-- refused: `sessions_give_the_rows` (src/shown.rt).
--
-- You trust Rattle's checker and its two compilers, LLVM, the C library and the system below them.
use Rattle.std.specs.Prelude.{◌≡◌, ◌≤◌, ℕ, List, Option, None}
use Rattle.row_code.specs.{declared.image.Image.Image, Image.IsImage}
use Rattle.loader.specs.{Declarations.declared_origin, Fault.first_fault, Program.without_words}
use Rattle.tier_tree.specs.Forest.{phaser_at}
use Rattle.cyclic_barrier.specs.{Barrier.BarrierState, PlainBarrier.fresh}
use Rattle.machine_scene.specs.{Scene.barrier_at, Scene.thread_at, Undo.Note}
use Rattle.thread_state.specs.declared.event.Event.{Event}
use Rattle.thread_machine.specs.{declared.choice.Choice.Choice, Step.played, Step.refusal_of, Undo.undone}
use Rattle.thread_machine.specs.World.{World, StoredWorld, IsFirstOf, first_of, world_of}
use Rattle.thread_machine.specs.Execution.{Execution, execution}
use Rattle.thread_machine.specs.DirectCounts.{NoPhaseEndsEarlyFrom, NumbersStay, counts_through}
use Rattle.trace_text.specs.State.{state_text}
use Rattle.headline.specs.Pasts.{RecordsOnePast}
use Rattle.headline.specs.PhaseEnds.{AreCounted, EndsInTime, NumbersGoOn, RoutineEnds, TakesArrivals, TerminateAsSaid, row_of}

-- accepted: each list of the program is within its limits, and no check of the loader finds a fault in it
abbrev pub Accepted : Image → Type 0
Accepted image = IsImage image × (first_fault image ≡ None)

-- the world before the first choice. From there at most 1,000,000,000 choices may be steps. One more is refused, and so is any
-- after 1,000,000,000,000 choices
abbrev pub start : Image → World
start image = first_of image 1000000000

-- 1. The whole world is what the choices leave: for each choice what the row of its thread gives in the world after the choices
-- before it, up to the first that is refused. The present state of the phasers is compared, too. Only the words in which the
-- program stores them at first are left out (`without_words`).
abbrev pub GivesTheRows : Image → List Choice → World → Type 0
GivesTheRows image choices left =
    record left { program = without_words left.program } ≡ (execution (start image) choices).world

-- 2. Whatever is chosen from the start on, no choice that isn't refused ends a phase early, unless a party that wasn't registered
-- has arrived in that tree (stray). At first the parties that each phaser is declared with are registered and haven't arrived
-- (`declared_origin`). Each registration and each arrival that doesn't throw goes into the counts (`counts_through`).
abbrev pub EndsNoPhaseEarly : Type 0
EndsNoPhaseEarly = (image : Image) → Accepted image → NoPhaseEndsEarlyFrom (start image) (declared_origin image.phasers)

-- In a tree that isn't terminated and where no unregistered party has arrived, the choice with which the last registered party
-- arrives or leaves ends the phase, or its thread enters the tree's routine (EndsInTime). The `ret` out of the routine ends it,
-- unless the tree was terminated meanwhile (RoutineEnds). That a routine comes to its `ret` isn't said.
abbrev pub PhasesEndInTime : Type 0
PhasesEndInTime =
    (image : Image) → Accepted image → (choices : List Choice) (choice : Choice)
    → let now : World = (execution (start image) choices).world in
    refusal_of now choice ≡ None
    → EndsInTime now choice (played now choice).world (counts_through (start image) choices (declared_origin image.phasers))
    × RoutineEnds now choice (played now choice).world

-- In such a tree an arrival doesn't throw while a party registered with its phaser is left to arrive, unless its thread runs the
-- tree's routine or has no room on its stack to enter one.
abbrev pub ArrivalsAreTaken : Type 0
ArrivalsAreTaken =
    (image : Image) → Accepted image → (choices : List Choice) (choice : Choice)
    → let now : World = (execution (start image) choices).world in
    refusal_of now choice ≡ None
    → TakesArrivals now choice (played now choice).world (counts_through (start image) choices (declared_origin image.phasers))

-- A choice terminates a phaser only by force, or when a phase of its tree ends and `onAdvance` returns true. `onAdvance` gets 0
-- parties exactly if by the counts everybody who registered with the tree has left, unless an unregistered party arrived
-- (AreCounted). Other numbers aren't compared, since a root also counts its children.
abbrev pub TerminationsAreSaid : Type 0
TerminationsAreSaid =
    (image : Image) → Accepted image → (choices : List Choice) (choice : Choice)
    → let now : World = (execution (start image) choices).world in
    refusal_of now choice ≡ None
    → TerminateAsSaid (row_of now choice) (thread_at now.scene choice.thread) now.scene.phasers (played now choice).world.scene.phasers
    × AreCounted now choice (played now choice).world (counts_through (start image) choices (declared_origin image.phasers))

-- The number of a phaser's phase changes only with a choice that ends a phase of its tree. Then the tree comes into the phase
-- after its root's.
abbrev pub NumbersChangeAtEnds : Type 0
NumbersChangeAtEnds =
    (image : Image) → Accepted image → (choices : List Choice) (choice : Choice)
    → let now : World = (execution (start image) choices).world in
    refusal_of now choice ≡ None
    → NumbersStay now.scene.phasers (played now choice).world.scene.phasers
    × NumbersGoOn now.scene.phasers (played now choice).world.scene.phasers

-- 3. None of these choices is refused if they are played in this order, these are their events, and `after` is `before`, to the
-- stored word. This is what a call leaves that plays them and then takes as many steps back. The states between aren't described.
abbrev pub BackRestores : StoredWorld → List Choice → List Event → StoredWorld → Type 0
BackRestores before choices events after =
    let done : Execution = execution (world_of before) choices in
    (done.refusal ≡ None) × (done.events ≡ events) × (after ≡ before)

-- For a single choice: between them is the world that its row gives, and what was saved of it (`kept`) restores exactly the
-- world before, to the stored word.
abbrev pub StepsAndReturns : StoredWorld → Choice → Event → Option Note → (middle : StoredWorld) → Type 0
StepsAndReturns before choice event kept middle =
    (refusal_of (world_of before) choice ≡ None) × (record { world = world_of middle; event = event } ≡ played (world_of before) choice)
    × (undone kept middle ≡ before)

-- 4. A barrier's past begins without an ended generation. Each choice that isn't refused adds the call there that its thread's
-- row, stack or wait names (MakesBarrierCall), or adds nothing: only if nothing names a call, or if the choice is idle or throws
-- exception 1 or 6 (GoesOn).
abbrev pub BarriersHavePasts : Type 0
BarriersHavePasts =
    (image : Image) → Accepted image → (choices : List Choice) (b : ℕ)
    → let first : BarrierState = barrier_at (start image).scene b in
    RecordsOnePast b (fresh first.parties first.action) (start image) choices

-- In a layer below: the words in which a tree of phasers is stored may lag behind the state that they stand for (`world_of`).
-- A step gives what the row gives in that state.
abbrev pub StepGivesTheRow : StoredWorld → Choice → Event → StoredWorld → Type 0
StepGivesTheRow before choice event after = record { world = world_of after; event = event } ≡ played (world_of before) choice

-- In a layer below: no tree of phasers ends more than 1,000,000,000 phases, since each end is a step. So a word that lags is
-- never a whole turn of 2,147,483,648 phases behind its root, where it would look like the root's.
abbrev pub EndsFewPhases : Type 0
EndsFewPhases =
    (image : Image) → Accepted image → (choices : List Choice) (root : ℕ)
    → (phaser_at (execution (start image) choices).world.scene.phasers root).ends ≤ 1000000000

-- In a layer below: how the phasers of a program are stored at first makes no difference to an execution. It leaves the same
-- world except for that, the same events, the same refusal, and the same state text.
abbrev pub StoredAlike : Type 0
StoredAlike =
    (image : Image) (first : World) → IsFirstOf image 1000000000 first → (choices : List Choice)
    → let shown : Execution = execution first choices in
    let rows : Execution = execution (start image) choices in
    GivesTheRows image choices shown.world × (shown.events ≡ rows.events) × (shown.refusal ≡ rows.refusal)
    × (state_text shown.world ≡ state_text rows.world)
