-- Counts that no row returns: how many parties, after each choice, are registered directly with each phaser, and how many
-- of these are still to arrive. They say which end of a phase is early.
use Rattle.std.specs.Prelude.{◌≡◌, ◌≤◌, ℕ, ℤ, pos, nat_abs, int_lt, ◌==◌, ◌&&◌, ◌||◌, not, Bool, true, false, if◌then◌else◌, List, [], ◌∷◌, Option, Some, None}
use Rattle.instruction_table.specs.{declared.row.Row.Row, Registers.value_in}
use Rattle.instruction_table.specs.declared.row.Row.TheVariants.{Preg, Pbulk, Parr, Pdereg, Paaa}
use Rattle.tier_tree.specs.{Forest.PhaserState, Forest.phaser_at, Forest.flat_at, Forest.root_at, Registration.registration}
use Rattle.tier_tree.specs.Arrival.{arrival}
use Rattle.tier_tree.specs.Origin.{Origin, HaveAllArrived, origin_after_arrival, origin_after_registration}
use Rattle.loader.specs.Program.{Program, row_at}
use Rattle.thread_state.specs.{declared.status.Status.Status, Thread.is_full}
use Rattle.thread_state.specs.declared.status.Status.TheVariants as status
use Rattle.machine_scene.specs.{Scene.Scene, Scene.thread_at, PhaserRows.is_own_tree, PhaserRows.has_routine}
use Rattle.thread_machine.specs.{declared.choice.Choice.Choice, declared.fault.StepFault.StepFault, Execution.execution}
use Rattle.thread_machine.specs.{World.World, World.first_world, Step.played, Step.refusal_of}

-- thread t registers this many parties with phaser p; the row is refused inside the tree's own routine, and for a count
-- below 0
abbrev pub with_registration : ℕ → ℤ → ℕ → Scene → Origin → Origin
with_registration p count t scene counts =
    if is_own_tree p (thread_at scene t) scene || int_lt count (pos 0) then counts
    else origin_after_registration (registration p (nat_abs count) scene.phasers) p (nat_abs count) counts

-- a party of thread t arrives at phaser p, and also leaves if the flag says so; the row is refused inside the tree's own
-- routine, and if the stack is full in a tree with a routine
abbrev pub with_arrival : ℕ → Bool → ℕ → Scene → Origin → Origin
with_arrival p leaves t scene counts =
    if is_own_tree p (thread_at scene t) scene || (has_routine p scene && is_full (thread_at scene t)) then counts
    else origin_after_arrival (arrival p leaves scene.phasers).answer p (root_at scene.phasers p) leaves counts

-- only these rows register or arrive
abbrev pub with_row : Row → ℕ → Scene → Origin → Origin
with_row (Preg into p) t scene counts = with_registration p (pos 1) t scene counts
with_row (Pbulk into p count) t scene counts =
    with_registration p (value_in (thread_at scene t).registers count) t scene counts
with_row (Parr into p) t scene counts = with_arrival p false t scene counts
with_row (Pdereg into p) t scene counts = with_arrival p true t scene counts
with_row (Paaa into p) t scene counts = with_arrival p false t scene counts
with_row _ t scene counts = counts

-- and only a running thread plays its row
abbrev pub with_turn : Status → Row → ℕ → Scene → Origin → Origin
with_turn status.Runs row t scene counts = with_row row t scene counts
with_turn _ row t scene counts = counts

-- the counts with the registration or the arrival of this choice, as they are when a phase ends with it
abbrev pub counts_at_end : World → Choice → Origin → Origin
counts_at_end world choice counts =
    let thread = thread_at world.scene choice.thread in
    if choice.expiry then counts
    else with_turn thread.status (row_at world.program.rows thread.pc) choice.thread world.scene counts

-- a phase of this root's tree has ended between the two
abbrev pub has_ended_phase : ℕ → List PhaserState → List PhaserState → Bool
has_ended_phase root before after = not ((phaser_at after root).ends == (phaser_at before root).ends)

-- the number of a phaser's phase changes only if a phase of its tree has ended
abbrev pub NumbersStay : List PhaserState → List PhaserState → Type 0
NumbersStay before after =
    (id : ℕ) → has_ended_phase (root_at before id) before after ≡ false
    → (flat_at after id).phase ≡ (flat_at before id).phase

-- in each tree in which a phase has ended between the two, everybody who is registered directly is to arrive again
abbrev pub set_back : List PhaserState → List PhaserState → Origin → Origin
set_back before after counts = record counts {
  unarrived = λ n. if has_ended_phase (root_at before n) before after then counts.registered n else counts.unarrived n;
}

-- the counts after a choice that led from the one world to the other
abbrev pub counts_after : World → Choice → World → Origin → Origin
counts_after before choice after counts =
    set_back before.scene.phasers after.scene.phasers (counts_at_end before choice counts)

-- if this choice ended a phase, everybody who registered directly with a phaser of the tree has arrived or left, unless a party
-- arrived there that wasn't registered so
abbrev pub ChoiceEndsNoPhaseEarly : World → Choice → World → Origin → Type 0
ChoiceEndsNoPhaseEarly before choice after counts =
    (root : ℕ) → has_ended_phase root before.scene.phasers after.scene.phasers ≡ true
    → (counts_at_end before choice counts).stray root ≡ false
    → HaveAllArrived (counts_at_end before choice counts) root before.scene.phasers

-- the counts after the choices in order, up to the first that is refused
abbrev pub counts_by : Option StepFault → Origin → Origin → Origin
counts_by (Some fault) counts rest = counts
counts_by None counts rest = rest

abbrev pub counts_through : World → List Choice → Origin → Origin
counts_through world [] counts = counts
counts_through world (choice ∷ choices) counts =
    let after = (played world choice).world in
    counts_by (refusal_of world choice) counts (counts_through after choices (counts_after world choice after counts))

-- whatever is chosen from this world on, no accepted choice ends a phase early; at first these are the counts
abbrev pub NoPhaseEndsEarlyFrom : World → Origin → Type 0
NoPhaseEndsEarlyFrom first counts =
    (choices : List Choice) (choice : Choice)
    → let now : World = (execution first choices).world in
    refusal_of now choice ≡ None
    → ChoiceEndsNoPhaseEarly now choice (played now choice).world (counts_through first choices counts)

-- the same of a program, within a limit that a machine may have
abbrev pub NoPhaseEndsEarly : Program → Origin → Type 0
NoPhaseEndsEarly program counts = (limit : ℕ) → limit ≤ 1000000000 → NoPhaseEndsEarlyFrom (first_world program limit) counts
