-- The results of several runs, whose orders are given by seeds.
use Rattle.std.specs.Prelude.{◌≡◌, ℕ, ◌+◌, ◌<◌, ◌≤◌, Bool, Err, if◌then◌else◌, not, List, [], ◌∷◌, ◌++◌, codes, decimal, length, Option, Some, None}
use Rattle.std.specs.{Global.Vec, Io.KnownBytes.Appends, List.find}
use Rattle.plans.specs.{Plan.words_in_plan, Planned.AreRuns, Progress.Progress, declared.planned.Planned.Planned}
use Rattle.schedule_reader.specs.{Schedule.choices_of, Text.schedule_text, declared.run.Run.Run}
use Rattle.thread_machine.specs.{Standing.standing_of, World.world_of}
use Rattle.thread_runner.specs.Endings.{standing_at}
use Rattle.trace_text.specs.Expectation.{are_met}
use Rattle.commands.specs.{Ends.end_text, Outcomes.AreOutcomes, Outcomes.Ended, Outcomes.IsMostFrequentFirst, Outcomes.report}
use Rattle.commands.specs.{Planning.HasThreads, Planning.IsUnloadedFor, Planning.Plays, declared.end_state.EndState.EndState}
use Rattle.commands.specs.declared.{outcomes.Outcome.Outcome, seeds.Seeds.Seeds, seeds.Unlike.Unlike}
use Rattle.commands.specs.declared.unplanned.Unplanned.{Unplanned}
use Rattle.workbench.specs.declared.program.Program.{Program}
use Rattle.loader.specs.Program.{IsProgramOf, Program as Loaded}
use Rattle.commands.specs.declared.unplanned.Unplanned.TheVariants as why

-- the most choices of an order, as a plan has it, if that is given
abbrev pub limit_mark : Option ℕ → List ℕ
limit_mark None = []
limit_mark (Some most) = codes "*" ++ decimal most

-- the plan of a seed: this plan, and then anybody who can go on, in the order of the seed, up to the limit
abbrev pub plan_by : List ℕ → (limit : Option ℕ) → (seed : ℕ) → List ℕ
plan_by plan limit seed = plan ++ (codes "\n?" ++ (decimal seed ++ limit_mark limit))

-- a run is what the plan of a seed leads to: the schedule of its choices, and the word for the program after them
abbrev pub IsEndBy : Loaded → (names : List (List ℕ)) → (plan : List ℕ) → (limit : Option ℕ) → (seed : ℕ) → Ended → Type 0
IsEndBy program names plan limit seed run =
    (progress : Progress) × ((runs : List Run) × (Plays program 1000000 names (plan_by plan limit seed) progress × AreRuns runs
    × (choices_of runs ≡ progress.choices) × (run.seed ≡ Some seed) × (run.schedule ≡ schedule_text runs)
    × (standing_at run.ending ≡ standing_of progress.world) × (run.state ≡ end_text run.ending progress.world)))

-- a run of a seed is what was played: its schedule, how it ended, and its state
abbrev pub IsEndOf : Planned → (seed : ℕ) → Ended → Type 0
IsEndOf planned seed run =
    (run.seed ≡ Some seed) × (run.schedule ≡ schedule_text planned.runs.items)
    × (standing_at run.ending ≡ standing_of (world_of planned.machine))
    × (run.state ≡ end_text run.ending (world_of planned.machine))

-- one for each seed, from this one on
abbrev pub AreEndsBy : Loaded → (names : List (List ℕ)) → (plan : List ℕ) → (limit : Option ℕ) → (first : ℕ) → List Ended → Type 0
AreEndsBy program names plan limit first [] = Unit {0}
AreEndsBy program names plan limit first (run ∷ runs) =
    IsEndBy program names plan limit first run × AreEndsBy program names plan limit (first + 1) runs

-- whether a run ended otherwise than all of these texts expect
abbrev pub is_unlike : List (Vec ℕ) → Ended → Bool
is_unlike expected run = not (are_met run.state expected)

-- what is reported about such a run: its seed, and how and in which state it ended
abbrev pub IsUnlike : Option Ended → Option Unlike → Type 0
IsUnlike None None = Unit {0}
IsUnlike None (Some unlike) = ⊥
IsUnlike (Some run) None = ⊥
IsUnlike (Some run) (Some unlike) = (run.seed ≡ Some unlike.seed) × (unlike.ending ≡ run.ending) × (unlike.state.items ≡ run.state)

-- the first of some runs that ended otherwise
abbrev pub IsFirstUnlike : List (Vec ℕ) → List Ended → Option Unlike → Type 0
IsFirstUnlike expected runs unlike = IsUnlike (find (is_unlike expected) runs) unlike

-- one of the seeds that are asked for
abbrev pub IsSeedOf : Seeds → ℕ → Type 0
IsSeedOf seeds seed = (seeds.first ≤ seed) × (seed < seeds.first + seeds.count)

-- why the orders of these seeds are not reported: the program isn't loaded, or it is, and the plan of one of them has this fault
abbrev pub HaveNoReport : Unplanned → Program → (plan : List ℕ) → Seeds → Type 0
HaveNoReport (why.Plan f) program plan seeds =
    (names : List (List ℕ)) × (HasThreads program.image program.names names
    × ((seed : ℕ) × (IsSeedOf seeds seed × (words_in_plan names (plan_by plan seeds.limit seed) ≡ Err f))))
HaveNoReport (why.Fault f) program plan seeds = IsUnloadedFor f program.image

-- what the orders of these seeds came to, and the first that ended otherwise than expected
abbrev pub AreOutcomesBy : Loaded → (names : List (List ℕ)) → (plan : List ℕ) → Seeds → List (EndState × Outcome) → Option Unlike → Type 0
AreOutcomesBy program names plan seeds outcomes unlike =
    (runs : List Ended) × ((length runs ≡ seeds.count) × AreEndsBy program names plan seeds.limit seeds.first runs
    × AreOutcomes runs outcomes × IsFirstUnlike seeds.expected.now runs unlike)

-- the names that the schedules have, or none if they have numbers
abbrev pub names_reported : (has_names : Bool) → List (List ℕ) → Option (List (List ℕ))
names_reported has_names names = if has_names then Some names else None

-- they were written, the most frequent first, and the first that ended otherwise is answered
abbrev pub HasReportedSeeds : Program → (plan : List ℕ) → Seeds → Option Unlike → (output_before output_after : Option (List ℕ)) → Type 0
HasReportedSeeds program plan seeds unlike output_before output_after =
    (loaded : Loaded) × ((names : List (List ℕ)) × ((outcomes : List (EndState × Outcome))
    × (HasThreads program.image program.names names × IsProgramOf program.image loaded × AreOutcomesBy loaded names plan seeds outcomes unlike
    × IsMostFrequentFirst outcomes × Appends output_before output_after (report (names_reported seeds.has_names names) outcomes))))
