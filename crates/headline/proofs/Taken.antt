-- The arrival of a registered party is taken.
use Rattle.std.proofs.Common.{◌≡◌, ◌≢◌, ◌∙◌, ℕ, ℤ, ◌+◌, ◌-◌, ◌<◌, ◌==◌, Bool, true, false, List, [], ◌∷◌, length, ap, refl, sym, subst, arith, if◌then◌else◌, rules, Option, Some, None, get_or-set_same}
use Rattle.std.proofs.lemmas.Bool.{cases_eq}
use Rattle.instruction_table.specs.declared.row.Row.{Row, TheVariants.Parr, TheVariants.Pdereg, TheVariants.Paaa}
use Rattle.packed_phaser.specs.Flat.{Flat, Arrival, Counts, Turns, ComesLate, IsUnregistered, arrive, settled, unarrived_of}
use Rattle.tier_tree.specs.{declared.climb.Climb.Climb, declared.arrived.Arrived.Arrived, Origin.Origin, Origin.AreTallied}
use Rattle.tier_tree.specs.Forest.{PhaserState, phaser_at, flat_at, root_at}
use Rattle.tier_tree.specs.Arrival.{Arrives, Climbed, is_top, climbed_by, climbed, arrival_by, arrival}
use Rattle.tier_tree.specs.declared.climb.Climb.TheVariants as climb
use Rattle.tier_tree.specs.declared.arrived.Arrived.TheVariants as arrived
use Rattle.tier_tree.proofs.{Balance.next-parent, Safe.line_own, Safe.root-parent, Stands.same-is, Stands.other-is}
use Rattle.loader.specs.Program.{Program, row_at}
use Rattle.thread_state.specs.declared.status.Status.{Status}
use Rattle.thread_state.specs.declared.status.Status.TheVariants as status
use Rattle.machine_scene.specs.{declared.manner.Manner.Manner, Manner.manner_of, Scene.Scene, Scene.Outcome, Scene.thread_at}
use Rattle.machine_scene.specs.PhaserRows.{refusal_of_arrival, unless_own, outcome_of_arrived, outcome_of_arrival}
use Rattle.machine_scene.specs.Outcomes.{outcome_in}
use Rattle.machine_scene.proofs.Plain.{StandsAt}
use Rattle.thread_machine.specs.{declared.choice.Choice.Choice, World.World, Ready.outcome_of_choice, Step.played}
use Rattle.headline.specs.PhaseEnds.{ArrivesAt, TakesArrivals, row_in, row_of}
use Rattle.headline.proofs.{LastArrivals.played_ends, Left.IsOpen, Left.live_at, Left.none_passes, Turns.scene_after}

-- it comes to the phaser
abbrev Comes : Arrival → Type 0
Comes (Counts g) = Unit {0}
Comes (Turns g) = Unit {0}
Comes (ComesLate view) = ⊥
Comes IsUnregistered = ⊥

comes_by : (ended none leave : Bool) (f : Flat) (view : _) → ended ≡ false → none ≡ false
    → Comes (if ended then ComesLate view else (if none then IsUnregistered
    else (if leave then settled (record f { parties = f.parties - 1 }) else settled (record f { arrived = f.arrived + 1 }))))
comes_by true none leave f view live some = absurd (cc live)
comes_by false _ leave f view live some = grind arith

-- the parent, if there is one, doesn't refuse
abbrev Onward : List ℕ → (Bool → Climbed) → Type 0
Onward [] onward = Unit {0}
Onward (n ∷ more) onward = (leaves : Bool) → (onward leaves).climb ≡ climb.Refused → ⊥

climb_comes : (a : Arrival) (i : ℕ) (above : List ℕ) (onward : Bool → Climbed) (phasers : List PhaserState) → Comes a
    → Onward above onward → (climbed_by a i (is_top above) onward phasers).climb ≡ climb.Refused → ⊥
climb_comes a i above onward phasers comes up is = grind arith

-- somebody is still to arrive at a phaser, so its parent waits for it
parent_waits : (phasers : List PhaserState) (counts : Origin) (root i n : ℕ) (more : List ℕ) → IsOpen phasers counts root → i < length phasers
    → (phaser_at phasers i).line ≡ i ∷ n ∷ more → n < length phasers → root_at phasers i ≡ root → root_at phasers n ≡ root
    → 0 < unarrived_of (flat_at phasers i) → 0 < unarrived_of (flat_at phasers n)
parent_waits phasers counts root i n more fair there line within tree above some = grind (arith, other-is, live_at, cases_eq, none_passes, same-is)

climbed_comes : (line : List ℕ) (i : ℕ) (leave : Bool) (phasers : List PhaserState) (counts : Origin) (root : ℕ) → IsOpen phasers counts root
    → i < length phasers → (phaser_at phasers i).line ≡ i ∷ line → root_at phasers i ≡ root → 0 < unarrived_of (flat_at phasers i)
    → (climbed (i ∷ line) leave phasers).climb ≡ climb.Refused → ⊥
climbed_comes [] i leave phasers counts root fair there is tree some = grind (arith, climb_comes, comes_by, live_at, other-is)
climbed_comes (n ∷ more) i leave phasers counts root fair there is tree some =
    let f = flat_at phasers i in
    let next = next-parent phasers i n more fair.forest there is in
    let below = next.0 in
    let within : n < length phasers = omega (arith, below, there) in
    let above : root_at phasers n ≡ root =
    sym (root-parent phasers i n fair.forest within (is ∙ ap (λ l. i ∷ l) (sym next.1))) ∙ tree in
    climb_comes (arrive leave f) i (n ∷ more) (λ leaves. climbed (n ∷ more) leaves phasers) phasers
    (comes_by f.ended (f.arrived == f.parties) leave f _ (live_at phasers counts root i fair there tree)
    (other-is f.arrived f.parties (λ all. omega (arith, all, some))))
    (λ leaves. climbed_comes more n leaves phasers counts root fair within next.1 above
    (parent_waits phasers counts root i n more fair there is within tree above some))

arrival_comes : (id : ℕ) (leave : Bool) (phasers : List PhaserState) (counts : Origin) (root : ℕ) → IsOpen phasers counts root
    → id < length phasers → root_at phasers id ≡ root → 0 < counts.unarrived id → (arrival id leave phasers).answer ≡ arrived.NotThere → ⊥
arrival_comes id leave phasers counts root fair there tree some is =
    let own = line_own phasers id fair.forest there in
    let tally = (fair.stands.tallied id there (ap counts.stray tree ∙ fair.clean) (live_at phasers counts root id fair there tree)).unarrived in
    let all = climbed (phaser_at phasers id).line leave phasers in
    by_end (flat_at phasers id).ended all.climb id all.phasers phasers _
    (subst (λ line. (climbed line leave phasers).climb ≡ climb.Refused → ⊥) (sym own.1)
    (climbed_comes own.0 id leave phasers counts root fair there own.1 tree (omega (arith, tally, some)))) is
  where
    by_end : (ended : Bool) (c : Climb) (id : ℕ) (after phasers : List PhaserState) (view : _) → (c ≡ climb.Refused → ⊥)
        → let a : Arrives = if ended then record { phasers = phasers; answer = arrived.Dead view } else arrival_by c id after phasers in
        a.answer ≡ arrived.NotThere → ⊥
    by_end true c id after phasers view comes is = absurd (cc is)
    by_end false climb.Counted id after phasers view comes is = absurd (cc is)
    by_end false climb.Turned id after phasers view comes is = absurd (cc is)
    by_end false climb.Refused id after phasers view comes is = comes refl

-- a thread that doesn't throw
abbrev Calm : ℕ → Scene → Type 0
Calm t scene = (code : ℤ) → (thread_at scene t).status ≢ status.Throws code

runs_on : (code : ℤ) → status.Runs ≢ status.Throws code
runs_on code is = cc is

calm_arrived : (answer : Arrived) (manner : Manner) (t : ℕ) (program : Program) (scene : Scene) → t < length scene.threads
    → (thread_at scene t).status ≡ status.Runs → (answer ≡ arrived.NotThere → ⊥) → Calm t (outcome_of_arrived answer manner t program scene).scene
calm_arrived answer manner t program scene there runs comes = grind (arith, get_or-set_same, runs_on)

arrives_calmly : (row : Row) (manner : Manner) (p t : ℕ) (program : Program) (steps : ℕ) (scene : Scene) (counts : Origin)
    → StandsAt program steps t scene status.Runs row → AreTallied scene.phasers counts → p < length scene.phasers
    → refusal_of_arrival p (thread_at scene t) scene ≡ None → (flat_at scene.phasers p).ended ≡ false
    → counts.stray (root_at scene.phasers p) ≡ false → 0 < counts.unarrived p
    → Calm t (scene_after (unless_own p t scene (Some (outcome_of_arrival manner p t program scene))) scene)
arrives_calmly row manner p t program steps scene counts stands tallied there none live clean some = search (rules, calm_arrived, arrival_comes)

abbrev TakesAt : Option Row → ℕ → Scene → Scene → Origin → Type 0
TakesAt row t scene last counts =
    (p : ℕ) → ArrivesAt row p → refusal_of_arrival p (thread_at scene t) scene ≡ None → (flat_at scene.phasers p).ended ≡ false
    → counts.stray (root_at scene.phasers p) ≡ false → 0 < counts.unarrived p → Calm t last

row_takes : (row : Row) (t : ℕ) (program : Program) (steps : ℕ) (scene : Scene) (counts : Origin) → StandsAt program steps t scene status.Runs row
    → AreTallied scene.phasers counts → TakesAt (Some row) t scene (scene_after (outcome_in status.Runs row t program scene) scene) counts
row_takes (Parr into at) t program steps scene counts stands tallied p same =
    subst (λ p. refusal_of_arrival p (thread_at scene t) scene ≡ None → (flat_at scene.phasers p).ended ≡ false
    → counts.stray (root_at scene.phasers p) ≡ false → 0 < counts.unarrived p
    → Calm t (scene_after (outcome_in status.Runs (Parr into at) t program scene) scene)) same
    (arrives_calmly (Parr into at) (manner_of (Parr into at)) at t program steps scene counts stands tallied stands.named)
row_takes (Pdereg into at) t program steps scene counts stands tallied p same =
    subst (λ p. refusal_of_arrival p (thread_at scene t) scene ≡ None → (flat_at scene.phasers p).ended ≡ false
    → counts.stray (root_at scene.phasers p) ≡ false → 0 < counts.unarrived p
    → Calm t (scene_after (outcome_in status.Runs (Pdereg into at) t program scene) scene)) same
    (arrives_calmly (Pdereg into at) (manner_of (Pdereg into at)) at t program steps scene counts stands tallied stands.named)
row_takes (Paaa into at) t program steps scene counts stands tallied p same =
    subst (λ p. refusal_of_arrival p (thread_at scene t) scene ≡ None → (flat_at scene.phasers p).ended ≡ false
    → counts.stray (root_at scene.phasers p) ≡ false → 0 < counts.unarrived p
    → Calm t (scene_after (outcome_in status.Runs (Paaa into at) t program scene) scene)) same
    (arrives_calmly (Paaa into at) (manner_of (Paaa into at)) at t program steps scene counts stands tallied stands.named)
row_takes _ t program steps scene counts stands tallied p same = absurd same

turn_takes : (of : Status) (row : Row) (t : ℕ) (program : Program) (steps : ℕ) (scene : Scene) (counts : Origin) → StandsAt program steps t scene of row
    → AreTallied scene.phasers counts → TakesAt (row_in of row) t scene (scene_after (outcome_in of row t program scene) scene) counts
turn_takes status.Runs row t program steps scene counts stands tallied p same = row_takes row t program steps scene counts stands tallied p same
turn_takes _ row t program steps scene counts stands tallied p same = absurd same

by_kind : (expiry : Bool) (row : Option Row) (t : ℕ) (scene : Scene) (counts : Origin) (late turn : Option Outcome)
    → TakesAt row t scene (scene_after turn scene) counts
    → TakesAt (if expiry then None else row) t scene (scene_after (if expiry then late else turn) scene) counts
by_kind true row t scene counts late turn takes p same = absurd same
by_kind false row t scene counts late turn takes p same = takes p same

pub takes : (world : World) (choice : Choice) (counts : Origin) (steps : ℕ)
    → StandsAt world.program steps choice.thread world.scene (thread_at world.scene choice.thread).status (row_at world.program.rows (thread_at world.scene choice.thread).pc)
    → AreTallied world.scene.phasers counts → TakesArrivals world choice (played world choice).world counts
takes world choice counts steps stands tallied =
    let scene = world.scene in
    let t = choice.thread in
    let thread = thread_at scene t in
    let row = row_at world.program.rows thread.pc in
    subst (λ (last : Scene). TakesAt (row_of world choice) t scene last counts) (sym (played_ends (outcome_of_choice world.program choice scene) world))
    (by_kind choice.expiry (row_in thread.status row) t scene counts _ _
    (turn_takes thread.status row t world.program steps scene counts stands tallied))
