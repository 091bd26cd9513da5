-- With the last arrival at a tree its phase ends, or its routine is entered.
use Rattle.std.proofs.Common.{inl, inr, ◌≡◌, ◌∙◌, ℕ, ℤ, suc, ◌-◌, ◌<◌, Bool, true, false, List, [], ◌∷◌, length, ap, refl, sym, subst, arith, if◌then◌else◌, rules, ◌⊎◌, ◌||◌, ◌++◌, slice_get, Option, Some, None, get_or-set_same}
use Rattle.std.proofs.lemmas.Bool.{cases_eq}
use Rattle.instruction_table.specs.declared.row.Row.{Row}
use Rattle.instruction_table.specs.declared.row.Row.TheVariants.{Ret, Preg, Parr, Pdereg, Paaa}
use Rattle.packed_phaser.specs.Flat.{Arrival, arrive, unarrived_of}
use Rattle.tier_tree.specs.declared.{climb.Climb.Climb, arrived.Arrived.Arrived, id.PhaserId.PhaserId}
use Rattle.tier_tree.specs.{Answer.KeepsEnds, Forest.PhaserState, Forest.phaser_at, Forest.flat_at, Forest.root_at}
use Rattle.tier_tree.specs.Arrival.{Arrives, Climbed, is_top, climbed_by, climbed, arrival_by, arrival}
use Rattle.tier_tree.specs.{Sound.IsForest, Origin.Origin, Origin.AreTallied, Origin.arrived_at, Origin.origin_after_arrival}
use Rattle.tier_tree.specs.declared.climb.Climb.TheVariants as climb
use Rattle.tier_tree.specs.declared.arrived.Arrived.TheVariants as arrived
use Rattle.tier_tree.proofs.{Balance.next-parent, Balance.flat-put, Safe.line_own, Safe.last_of, Safe.last-more}
use Rattle.tier_tree.proofs.{Stands.other-is, Stands.stands_after_arrival, Trees.trees_arrived, Trees.policy_same}
use Rattle.tier_tree.proofs.Kept.{arrival-ends}
use Rattle.loader.specs.Program.{Program, row_at}
use Rattle.thread_state.specs.declared.{frame.Frame.Frame, status.Status.Status}
use Rattle.thread_state.specs.Thread.{ThreadState, Turn, top_of, turn_of_advance}
use Rattle.thread_state.specs.declared.frame.Frame.TheVariants as frame
use Rattle.thread_state.specs.declared.status.Status.TheVariants as status
use Rattle.machine_scene.specs.{declared.manner.Manner.Manner, Manner.manner_of, Outcomes.outcome_in}
use Rattle.machine_scene.specs.Scene.{Scene, Outcome, no_thread, thread_at, routine_at, with_phasers, with_thread}
use Rattle.machine_scene.specs.CallRows.{outcome_of_ret, outcome_of_routine_end}
use Rattle.machine_scene.specs.PhaserRows.{is_routine_policy, answer_of_policy, unless_own, outcome_of_pending_end, outcome_of_arrived, outcome_of_arrival}
use Rattle.machine_scene.proofs.{CallRows.can_turn_on_top, Plain.StandsAt, Routines.turning_root}
use Rattle.machine_scene.proofs.Standings.{Standing, arrival-standings}
use Rattle.thread_machine.specs.{declared.choice.Choice.Choice, World.World, Ready.outcome_of_choice}
use Rattle.thread_machine.specs.Step.{played, played_by}
use Rattle.thread_machine.specs.DirectCounts.{has_ended_phase, with_registration, with_arrival, with_row, with_turn, counts_at_end}
use Rattle.headline.specs.PhaseEnds.{AreCounted, EndsInTime, HasLastArrived, HaveAllLeft, IsInRoutine, RoutineEnds, TerminateAsSaid, row_in, row_of}
use Rattle.headline.proofs.Prompt.{ArePrompt, Lands, all_come, arrival_prompt, arrive_lands}
use Rattle.headline.proofs.{TreeCalls.no_answer, TreeCalls.root_ended, Left.ended_left, Turns.scene_after}

-- a phaser of this root's tree, below a number, at which somebody is still to arrive
abbrev IsLeft : ℕ → ℕ → (before after : List PhaserState) → Type 0
IsLeft bound root before after =
    (k : ℕ) × ((k < bound) × ((root_at before k ≡ root) × (0 < unarrived_of (flat_at after k))))

left_by : (a : Arrival) (i : ℕ) (above : List ℕ) (root : ℕ) (onward : Bool → Climbed) (phasers : List PhaserState) → i < length phasers
    → root_at phasers i ≡ root → Lands a
    → ((n : ℕ) (more : List ℕ) → above ≡ n ∷ more
    → (n < i) × ((leaves : Bool) → (onward leaves).climb ≡ climb.Counted → IsLeft (suc n) root phasers (onward leaves).phasers))
    → let all = climbed_by a i (is_top above) onward phasers in
    all.climb ≡ climb.Counted → IsLeft (suc i) root phasers all.phasers
left_by a i above root onward phasers there top lands up is = search (rules, flat-put)

climbed_left : (line : List ℕ) (i : ℕ) (leave : Bool) (phasers : List PhaserState) → IsForest phasers → i < length phasers
    → (phaser_at phasers i).line ≡ i ∷ line → ArePrompt phasers
    → let all = climbed (i ∷ line) leave phasers in
    all.climb ≡ climb.Counted → IsLeft (suc i) (last_of (i ∷ line)) phasers all.phasers
climbed_left [] i leave phasers forest there is rest counted =
    let f = flat_at phasers i in
    left_by (arrive leave f) i [] (last_of (i ∷ [])) (λ leaves. climbed [] leaves phasers) phasers there (ap last_of is)
    (arrive_lands leave f (rest i)) (λ n more none. absurd (cc none)) counted
climbed_left (n ∷ more) i leave phasers forest there is rest counted =
    let f = flat_at phasers i in
    let next = next-parent phasers i n more forest there is in
    let below = next.0 in
    left_by (arrive leave f) i (n ∷ more) (last_of (i ∷ n ∷ more)) (λ leaves. climbed (n ∷ more) leaves phasers) phasers there (ap last_of is)
    (arrive_lands leave f (rest i))
    (λ m others same. (
      subst (λ k. k < i) (one n m more others same) below,
      λ leaves on. subst (λ k. IsLeft (suc k) (last_of (i ∷ n ∷ more)) phasers (climbed (n ∷ more) leaves phasers).phasers) (one n m more others same)
          (subst (λ root. IsLeft (suc n) root phasers (climbed (n ∷ more) leaves phasers).phasers) (sym (last-more i n more))
          (climbed_left more n leaves phasers forest (omega (arith, below, there)) next.1 rest on)),
    )) counted
  where
    one : (n m : ℕ) (more others : List ℕ) → n ∷ more ≡ m ∷ others → n ≡ m
    one n m more others same = cc same

-- so it is after an arrival that is counted, and isn't the last
arrival_left : (id : ℕ) (leave : Bool) (phasers : List PhaserState) (phase : ℤ) → IsForest phasers → id < length phasers
    → ArePrompt phasers → (arrival id leave phasers).answer ≡ arrived.At phase
    → IsLeft (suc id) (root_at phasers id) phasers (arrival id leave phasers).phasers
arrival_left id leave phasers phase forest there rest is =
    let own = line_own phasers id forest there in
    let all = climbed (phaser_at phasers id).line leave phasers in
    by_end (flat_at phasers id).ended all.climb id all.phasers phasers phase _ is
    (subst (λ line. (climbed line leave phasers).climb ≡ climb.Counted → IsLeft (suc id) (last_of line) phasers (climbed line leave phasers).phasers)
    (sym own.1) (climbed_left own.0 id leave phasers forest there own.1 rest))
  where
    by_end : (ended : Bool) (c : Climb) (id : ℕ) (after phasers : List PhaserState) (phase : ℤ) (view : _)
        → let a : Arrives = if ended then record { phasers = phasers; answer = arrived.Dead view } else arrival_by c id after phasers in
        a.answer ≡ arrived.At phase → (c ≡ climb.Counted → IsLeft (suc id) (root_at phasers id) phasers after)
        → IsLeft (suc id) (root_at phasers id) phasers a.phasers
    by_end true c id after phasers phase view is left = absurd (cc is)
    by_end false climb.Counted id after phasers phase view is left = left refl
    by_end false climb.Turned id after phasers phase view is left = absurd (cc is)
    by_end false climb.Refused id after phasers phase view is left = absurd (cc is)

-- what is to be shown of each outcome
abbrev LastEnds : (counts at : Origin) → ℕ → Scene → Option Outcome → Type 0
LastEnds counts at t scene outcome =
    (root : ℕ) → root < length scene.phasers → (flat_at scene.phasers root).ended ≡ false → at.stray root ≡ false
    → HasLastArrived counts at root scene.phasers
    → (has_ended_phase root scene.phasers (scene_after outcome scene).phasers ≡ true)
    ⊎ ((is_routine_policy (phaser_at scene.phasers root).policy ≡ true) × IsInRoutine root (thread_at (scene_after outcome scene) t))

-- where nobody has arrived, the last hasn't
uncounted : (counts : Origin) (t : ℕ) (scene : Scene) (outcome : Option Outcome) → LastEnds counts counts t scene outcome
uncounted counts t scene outcome root there live clean last = grind arith

registers : (p : ℕ) (count : ℤ) (t : ℕ) (scene : Scene) (counts : Origin) (outcome : Option Outcome)
    → LastEnds counts (with_registration p count t scene counts) t scene outcome
registers p count t scene counts outcome root there live clean last = grind arith

-- the last arrival is one in its own tree
same_tree : (p root : ℕ) (leave : Bool) (phasers : List PhaserState) (counts : Origin)
    → HasLastArrived counts (arrived_at p (root_at phasers p) leave counts) root phasers → root_at phasers p ≡ root
same_tree p root leave phasers counts last = grind (arith, cases_eq, other-is)

top_pushed : (stack : List Frame) (entry : Frame) → top_of (stack ++ entry ∷ []) ≡ Some entry
top_pushed [] entry = refl
top_pushed (x ∷ stack) entry = shift x stack entry ∙ top_pushed stack entry
  where
    shift : (x : Frame) (stack : List Frame) (entry : Frame) → top_of ((x ∷ stack) ++ entry ∷ []) ≡ top_of (stack ++ entry ∷ [])
    shift x [] entry = refl
    shift x (y ∷ stack) entry =
        let n = length (stack ++ entry ∷ []) in
        let here : suc (suc n) - 1 ≡ suc n = omega arith in
        let there : suc n - 1 ≡ n = omega arith in
        ap (λ (m : ℕ). slice_get (x ∷ y ∷ (stack ++ entry ∷ [])) m) here
        ∙ ap (λ (m : ℕ). slice_get (y ∷ (stack ++ entry ∷ [])) m) (sym there)

-- the phase end is pending: the policy answers, or the routine is entered
pending_ends : (answer : Option Bool) (program : Program) (steps t p : ℕ) (manner : Manner) (scene : Scene) (root : PhaserId)
    (phase : ℤ) (parties : ℕ) (row : Row) → StandsAt program steps t scene status.Runs row → p < length scene.phasers
    → (arrival p manner.leaves scene.phasers).answer ≡ arrived.Turning root phase parties
    → let after = with_phasers (arrival p manner.leaves scene.phasers).phasers scene in
    answer_of_policy root.0 after ≡ answer
    → let last = (outcome_of_pending_end answer manner root.0 phase t program after).scene in
    (has_ended_phase root.0 scene.phasers last.phasers ≡ true)
    ⊎ ((is_routine_policy (phaser_at scene.phasers root.0).policy ≡ true) × IsInRoutine root.0 (thread_at last t))
pending_ends (Some over) program steps t p manner scene root phase parties row stands there is says =
    let turns = turning_root steps p manner.leaves scene.phasers root phase parties stands.sound.trees stands.few there is in
    inl (root_ended root.0 over scene.phasers (arrival p manner.leaves scene.phasers).phasers (arrival-ends p manner.leaves scene.phasers) turns.2.there)
pending_ends None program steps t p manner scene root phase parties row stands there is says =
    let mid = (arrival p manner.leaves scene.phasers).phasers in
    let kept = trees_arrived steps p manner.leaves scene.phasers stands.sound.trees there in
    let thread = thread_at scene t in
    let turn : Turn = turn_of_advance root.0 phase (flat_at mid root.0).parties (routine_at program root.0) thread in
    let now = get_or-set_same scene.threads t turn.thread no_thread stands.there in
    inr (
      ap is_routine_policy (sym (policy_same scene.phasers mid kept.places root.0))
          ∙ no_answer (phaser_at mid root.0).policy (flat_at mid root.0).phase (flat_at mid root.0).parties says,
      (thread.registers, (thread.pc, ap (λ (th : ThreadState). top_of th.stack) now ∙ top_pushed thread.stack _)),
    )

-- an arrival that is counted, and isn't the last: somebody is still to arrive
not_last : (program : Program) (steps t p : ℕ) (leave : Bool) (scene : Scene) (counts : Origin) (phase : ℤ) (row : Row)
    → StandsAt program steps t scene status.Runs row → p < length scene.phasers → AreTallied scene.phasers counts
    → ArePrompt scene.phasers → (arrival p leave scene.phasers).answer ≡ arrived.At phase
    → let at = arrived_at p (root_at scene.phasers p) leave counts in
    (root : ℕ) → (flat_at scene.phasers root).ended ≡ false → at.stray root ≡ false → HasLastArrived counts at root scene.phasers → ⊥
not_last program steps t p leave scene counts phase row stands there tallied rest is root live clean last =
    let phasers = scene.phasers in
    let at = arrived_at p (root_at phasers p) leave counts in
    let forest = stands.sound.trees.forest in
    let mid = (arrival p leave phasers).phasers in
    let kept = trees_arrived steps p leave phasers stands.sound.trees there in
    let many = kept.many in
    let own : root_at phasers p ≡ root = same_tree p root leave phasers counts last in
    let one = arrival_left p leave phasers phase forest there rest is in
    let k = one.0 in
    let near = one.1.0 in
    let some = one.1.1.1 in
    let now : AreTallied mid at =
    subst (λ answer. AreTallied mid (origin_after_arrival answer p (root_at phasers p) leave counts)) is
    (stands_after_arrival phasers counts p leave (arrival p leave phasers) forest there refl tallied) in
    let none = all_come (length mid) mid at root kept.trees.forest now (arrival_prompt p leave phasers rest) clean
    (ap (λ (s : Standing). s.ended) (arrival-standings p leave phasers root) ∙ live)
    (λ id inside tree. last.1 id (omega (arith, many, inside)) (sym (kept.places.roots id) ∙ tree))
    k (omega arith) (omega (arith, many, near, there)) (kept.places.roots k ∙ one.1.1.0 ∙ own) in
    absurd (omega (arith, some, none))

arrives : (answer : Arrived) (row : Row) (program : Program) (steps t p : ℕ) (manner : Manner) (scene : Scene) (counts : Origin)
    → StandsAt program steps t scene status.Runs row → p < length scene.phasers → AreTallied scene.phasers counts
    → ArePrompt scene.phasers → (arrival p manner.leaves scene.phasers).answer ≡ answer
    → LastEnds counts (origin_after_arrival answer p (root_at scene.phasers p) manner.leaves counts) t scene
    (Some (outcome_of_arrived answer manner t program (with_phasers (arrival p manner.leaves scene.phasers).phasers scene)))
arrives (arrived.Turning root phase parties) row program steps t p manner scene counts stands there tallied rest is top inside live clean last =
    let turns = turning_root steps p manner.leaves scene.phasers root phase parties stands.sound.trees stands.few there is in
    let outcome = outcome_of_arrived (arrived.Turning root phase parties) manner t program (with_phasers (arrival p manner.leaves scene.phasers).phasers scene) in
    subst (λ r. (has_ended_phase r scene.phasers outcome.scene.phasers ≡ true)
    ⊎ ((is_routine_policy (phaser_at scene.phasers r).policy ≡ true) × IsInRoutine r (thread_at outcome.scene t)))
    (turns.0 ∙ same_tree p top manner.leaves scene.phasers counts last)
    (pending_ends (answer_of_policy root.0 (with_phasers (arrival p manner.leaves scene.phasers).phasers scene)) program steps t p manner scene root
    phase parties row stands there is refl)
arrives answer row program steps t p manner scene counts stands there tallied rest is root inside live clean last = search (rules, turning_root, same_tree, pending_ends, not_last)

full_or : (own full : Bool) (t : ℕ) (scene : Scene) (counts at : Origin) (first : Option Outcome) (second call : Outcome)
    → LastEnds counts at t scene (Some call)
    → LastEnds counts (if own || full then counts else at) t scene (if own then first else Some (if full then second else call))
full_or true full t scene counts at first second call goes = uncounted counts t scene first
full_or false true t scene counts at first second call goes = uncounted counts t scene (Some second)
full_or false false t scene counts at first second call goes = goes

arrival_ends : (row : Row) (program : Program) (steps t p : ℕ) (manner : Manner) (scene : Scene) (counts : Origin)
    → StandsAt program steps t scene status.Runs row → p < length scene.phasers → AreTallied scene.phasers counts
    → ArePrompt scene.phasers
    → LastEnds counts (with_arrival p manner.leaves t scene counts) t scene
    (unless_own p t scene (Some (outcome_of_arrival manner p t program scene)))
arrival_ends row program steps t p manner scene counts stands there tallied rest = search (rules, full_or, arrives)

row_ends : (row : Row) (program : Program) (steps t : ℕ) (scene : Scene) (counts : Origin) → StandsAt program steps t scene status.Runs row
    → AreTallied scene.phasers counts → ArePrompt scene.phasers
    → LastEnds counts (with_row row t scene counts) t scene (outcome_in status.Runs row t program scene)
row_ends (Preg into p) program steps t scene counts stands tallied rest = grind (arith, registers)
row_ends row program steps t scene counts stands tallied rest = search (rules, registers, arrival_ends, uncounted)

turn_ends : (of : Status) (row : Row) (program : Program) (steps t : ℕ) (scene : Scene) (counts : Origin) → StandsAt program steps t scene of row
    → AreTallied scene.phasers counts → ArePrompt scene.phasers
    → LastEnds counts (with_turn of row t scene counts) t scene (outcome_in of row t program scene)
turn_ends status.Runs row program steps t scene counts stands tallied rest = row_ends row program steps t scene counts stands tallied rest
turn_ends of row program steps t scene counts stands tallied rest = uncounted counts t scene (outcome_in of row t program scene)

by_kind : (expiry : Bool) (counts at : Origin) (t : ℕ) (scene : Scene) (late turn : Option Outcome) → LastEnds counts at t scene turn
    → LastEnds counts (if expiry then counts else at) t scene (if expiry then late else turn)
by_kind true counts at t scene late turn goes = uncounted counts t scene late
by_kind false counts at t scene late turn goes = goes

pub played_ends : (outcome : Option Outcome) (world : World) → (played_by outcome world).world.scene ≡ scene_after outcome world.scene
played_ends outcome world = grind arith

-- so the phase of a tree ends in time, or its routine is entered
pub last_ends : (world : World) (choice : Choice) (counts : Origin) (steps : ℕ)
    → StandsAt world.program steps choice.thread world.scene (thread_at world.scene choice.thread).status (row_at world.program.rows (thread_at world.scene choice.thread).pc)
    → AreTallied world.scene.phasers counts → ArePrompt world.scene.phasers
    → EndsInTime world choice (played world choice).world counts
last_ends world choice counts steps stands tallied rest root =
    let scene = world.scene in
    let t = choice.thread in
    let thread = thread_at scene t in
    let row = row_at world.program.rows thread.pc in
    let outcome = outcome_of_choice world.program choice scene in
    subst (λ (last : Scene). root < length scene.phasers → (flat_at scene.phasers root).ended ≡ false
    → (counts_at_end world choice counts).stray root ≡ false → HasLastArrived counts (counts_at_end world choice counts) root scene.phasers
    → (has_ended_phase root scene.phasers last.phasers ≡ true)
    ⊎ ((is_routine_policy (phaser_at scene.phasers root).policy ≡ true) × IsInRoutine root (thread_at last t)))
    (sym (played_ends outcome world))
    (by_kind choice.expiry counts (with_turn thread.status row t scene counts) t scene _ _
    (turn_ends thread.status row world.program steps t scene counts stands tallied rest) root)

-- what is to be shown of each outcome that ends a phase
abbrev Leaves : Origin → Scene → Scene → Type 0
Leaves at scene last =
    (root : ℕ) → root < length scene.phasers → root_at scene.phasers root ≡ root → has_ended_phase root scene.phasers last.phasers ≡ true
    → at.stray root ≡ false
    → ((flat_at last.phasers root).parties ≡ 0 → HaveAllLeft at root scene.phasers)
    × (HaveAllLeft at root scene.phasers → (flat_at last.phasers root).parties ≡ 0)

none_leaves : (at : Origin) (scene last : Scene) → KeepsEnds scene.phasers last.phasers → Leaves at scene last
none_leaves at scene last kept root there top ended = grind arith

-- a row that `onAdvance` doesn't answer ends none
pending_leaves : (answer : Option Bool) (program : Program) (steps t p : ℕ) (manner : Manner) (scene : Scene) (counts : Origin) (root : PhaserId)
    (phase : ℤ) (parties : ℕ) (row : Row) → StandsAt program steps t scene status.Runs row → p < length scene.phasers
    → AreTallied scene.phasers counts → (arrival p manner.leaves scene.phasers).answer ≡ arrived.Turning root phase parties
    → let after = with_phasers (arrival p manner.leaves scene.phasers).phasers scene in
    Leaves (arrived_at p (root_at scene.phasers p) manner.leaves counts) scene (outcome_of_pending_end answer manner root.0 phase t program after).scene
pending_leaves (Some over) program steps t p manner scene counts root phase parties row stands there tallied is r inside top =
    let phasers = scene.phasers in
    let turns = turning_root steps p manner.leaves phasers root phase parties stands.sound.trees stands.few there is in
    let kept = trees_arrived steps p manner.leaves phasers stands.sound.trees there in
    ended_left root.0 over phasers (arrival p manner.leaves phasers).phasers (arrived_at p (root_at phasers p) manner.leaves counts) turns.2
    kept.trees.forest
    (subst (λ answer. AreTallied (arrival p manner.leaves phasers).phasers (origin_after_arrival answer p (root_at phasers p) manner.leaves counts)) is
    (stands_after_arrival phasers counts p manner.leaves (arrival p manner.leaves phasers) stands.sound.trees.forest there refl tallied))
    kept.many kept.places.roots (arrival-ends p manner.leaves phasers) r
pending_leaves None program steps t p manner scene counts root phase parties row stands there tallied is r inside top = grind (arith, arrival-ends, none_leaves)

arrival_leaves : (answer : Arrived) (row : Row) (program : Program) (steps t p : ℕ) (manner : Manner) (scene : Scene) (counts : Origin)
    → StandsAt program steps t scene status.Runs row → p < length scene.phasers → AreTallied scene.phasers counts
    → (arrival p manner.leaves scene.phasers).answer ≡ answer
    → Leaves (origin_after_arrival answer p (root_at scene.phasers p) manner.leaves counts) scene
    (outcome_of_arrived answer manner t program (with_phasers (arrival p manner.leaves scene.phasers).phasers scene)).scene
arrival_leaves (arrived.Turning root phase parties) row program steps t p manner scene counts stands there tallied is r inside top =
    pending_leaves (answer_of_policy root.0 (with_phasers (arrival p manner.leaves scene.phasers).phasers scene)) program steps t p manner scene
    counts root phase parties row stands there tallied is r inside top
arrival_leaves answer row program steps t p manner scene counts stands there tallied is r inside top = grind (arith, none_leaves, arrival-ends)

leaves_or : (own full : Bool) (scene : Scene) (counts at : Origin) (first second call : Outcome) → KeepsEnds scene.phasers first.scene.phasers
    → KeepsEnds scene.phasers second.scene.phasers → Leaves at scene call.scene
    → Leaves (if own || full then counts else at) scene
    (scene_after (if own then Some first else Some (if full then second else call)) scene)
leaves_or true full scene counts at first second call a b goes root = none_leaves counts scene first.scene a root
leaves_or false true scene counts at first second call a b goes root = none_leaves counts scene second.scene b root
leaves_or false false scene counts at first second call a b goes root = goes root

counted_leaves : (row : Row) (program : Program) (steps t p : ℕ) (manner : Manner) (scene : Scene) (counts : Origin)
    → StandsAt program steps t scene status.Runs row → p < length scene.phasers → AreTallied scene.phasers counts
    → Leaves (with_arrival p manner.leaves t scene counts) scene
    (scene_after (unless_own p t scene (Some (outcome_of_arrival manner p t program scene))) scene)
counted_leaves row program steps t p manner scene counts stands there tallied = search (rules, leaves_or, arrival_leaves)

routine_leaves : (ended : Bool) (program : Program) (steps t root back : ℕ) (registers : List ℤ) (manner : Manner) (scene : Scene) (left : ThreadState)
    (counts : Origin) → (flat_at scene.phasers root).ended ≡ ended → StandsAt program steps t scene status.Runs Ret
    → top_of (thread_at scene t).stack ≡ Some (frame.Advance root registers back) → AreTallied scene.phasers counts
    → (terminates : Bool) → Leaves counts scene (outcome_of_routine_end ended manner root terminates t (with_thread left t scene)).scene
routine_leaves true program steps t root back saved manner scene left counts is stands top tallied terminates r inside own = grind (arith, none_leaves)
routine_leaves false program steps t root back saved manner scene left counts is stands top tallied terminates r inside own =
    ended_left root terminates scene.phasers scene.phasers counts
    (can_turn_on_top program steps t root back saved scene stands.sound stands.few stands.there top is) stands.sound.trees.forest tallied refl
    (λ id. refl) (λ id. refl) r

ret_leaves : (top : Option Frame) (program : Program) (steps t : ℕ) (scene : Scene) (counts : Origin) → StandsAt program steps t scene status.Runs Ret
    → top_of (thread_at scene t).stack ≡ top → AreTallied scene.phasers counts → Leaves counts scene (outcome_of_ret top t program scene).scene
ret_leaves (Some (frame.Advance root saved back)) program steps t scene counts stands is tallied =
    routine_leaves (flat_at scene.phasers root).ended program steps t root back saved _ scene _ counts refl stands is tallied _
ret_leaves top program steps t scene counts stands is tallied = grind (arith, none_leaves)

row_leaves : (row : Row) (program : Program) (steps t : ℕ) (scene : Scene) (counts : Origin) → StandsAt program steps t scene status.Runs row
    → AreTallied scene.phasers counts
    → TerminateAsSaid (Some row) (thread_at scene t) scene.phasers (scene_after (outcome_in status.Runs row t program scene) scene).phasers
    → Leaves (with_row row t scene counts) scene (scene_after (outcome_in status.Runs row t program scene) scene)
row_leaves (Parr into p) program steps t scene counts stands tallied said =
    counted_leaves (Parr into p) program steps t p (manner_of (Parr into p)) scene counts stands stands.named tallied
row_leaves (Pdereg into p) program steps t scene counts stands tallied said =
    counted_leaves (Pdereg into p) program steps t p (manner_of (Pdereg into p)) scene counts stands stands.named tallied
row_leaves (Paaa into p) program steps t scene counts stands tallied said =
    counted_leaves (Paaa into p) program steps t p (manner_of (Paaa into p)) scene counts stands stands.named tallied
row_leaves Ret program steps t scene counts stands tallied said =
    ret_leaves (top_of (thread_at scene t).stack) program steps t scene counts stands refl tallied
row_leaves row program steps t scene counts stands tallied said = grind (arith, scene_after)

turn_leaves : (of : Status) (row : Row) (program : Program) (steps t : ℕ) (scene : Scene) (counts : Origin) → StandsAt program steps t scene of row
    → AreTallied scene.phasers counts
    → TerminateAsSaid (row_in of row) (thread_at scene t) scene.phasers (scene_after (outcome_in of row t program scene) scene).phasers
    → Leaves (with_turn of row t scene counts) scene (scene_after (outcome_in of row t program scene) scene)
turn_leaves status.Runs row program steps t scene counts stands tallied said = row_leaves row program steps t scene counts stands tallied said
turn_leaves of row program steps t scene counts stands tallied said = grind (arith, scene_after)

leaves_by : (expiry : Bool) (row : Option Row) (counts at : Origin) (t : ℕ) (scene : Scene) (late turn : Option Outcome)
    → (TerminateAsSaid row (thread_at scene t) scene.phasers (scene_after turn scene).phasers → Leaves at scene (scene_after turn scene))
    → TerminateAsSaid (if expiry then None else row) (thread_at scene t) scene.phasers (scene_after (if expiry then late else turn) scene).phasers
    → Leaves (if expiry then counts else at) scene (scene_after (if expiry then late else turn) scene)
leaves_by true row counts at t scene late turn goes said = grind (arith, scene_after)
leaves_by false row counts at t scene late turn goes said = goes said

-- the parties that `onAdvance` is told of are those who are registered
pub are_counted : (world : World) (choice : Choice) (counts : Origin) (steps : ℕ)
    → StandsAt world.program steps choice.thread world.scene (thread_at world.scene choice.thread).status (row_at world.program.rows (thread_at world.scene choice.thread).pc)
    → AreTallied world.scene.phasers counts
    → TerminateAsSaid (row_of world choice) (thread_at world.scene choice.thread) world.scene.phasers (played world choice).world.scene.phasers
    → AreCounted world choice (played world choice).world counts
are_counted world choice counts steps stands tallied said =
    let scene = world.scene in
    let t = choice.thread in
    let thread = thread_at scene t in
    let row = row_at world.program.rows thread.pc in
    let outcome = outcome_of_choice world.program choice scene in
    subst (λ (last : Scene). Leaves (counts_at_end world choice counts) scene last) (sym (played_ends outcome world))
    (leaves_by choice.expiry (row_in thread.status row) counts (with_turn thread.status row t scene counts) t scene _ _
    (turn_leaves thread.status row world.program steps t scene counts stands tallied)
    (subst (λ (last : Scene). TerminateAsSaid (row_of world choice) thread scene.phasers last.phasers) (played_ends outcome world) said))

-- a root that isn't there isn't that of a routine
pub routine_ends : (world : World) (choice : Choice) (steps : ℕ)
    → ((root : ℕ) (registers : List ℤ) (back : ℕ) → top_of (thread_at world.scene choice.thread).stack ≡ Some (frame.Advance root registers back)
    → root < length world.scene.phasers) → RoutineEnds world choice (played world choice).world
routine_ends world choice steps within root is top live = grind (arith, played_ends, registers, root_ended)
