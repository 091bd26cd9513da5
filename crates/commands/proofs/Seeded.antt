-- Orders of seeds, one more at a time.
use Rattle.std.proofs.Common.{◌≡◌, ◌∙◌, ◌+◌, ◌<◌, ℕ, List, [], ◌∷◌, ◌++◌, Some, None, ap, length, subst, sym, arith, Err, IfOk, Option, Result, cond, not}
use Rattle.std.proofs.lemmas.List.Folds.{find-append}
use Rattle.std.specs.{Global.Vec, List.find, Option.option_or}
use Rattle.loader.specs.Program.{Program as Loaded}
use Rattle.plans.specs.{Plan.words_in_plan, declared.fault.PlanFault.PlanFault, declared.planned.Planned.Planned}
use Rattle.plans.specs.{Planned.AreRuns, Planned.Shows, Progress.Progress}
use Rattle.thread_machine.specs.{Standing.standing_of, World.World}
use Rattle.trace_text.specs.Expectation.{are_met}
use Rattle.commands.specs.{Ends.end_text, Outcomes.Ended, Planning.Plays, declared.seeds.Seeds.Seeds}
use Rattle.commands.specs.Seeds.{AreEndsBy, IsEndBy, IsEndOf, IsFirstUnlike, IsSeedOf, IsUnlike, is_unlike, plan_by}
use Rattle.commands.specs.declared.{seeds.Unlike.Unlike, unplanned.Unplanned.Unplanned}

pub one_more : (program : Loaded) (names : List (List ℕ)) (plan : List ℕ) (limit : Option ℕ) (first : ℕ) (runs : List Ended) (run : Ended)
    → AreEndsBy program names plan limit first runs → IsEndBy program names plan limit (first + length runs) run
    → AreEndsBy program names plan limit first (runs ++ run ∷ [])
one_more program names plan limit first [] run are is = grind arith
one_more program names plan limit first (other ∷ runs) run are is =
    let there : first + length (other ∷ runs) ≡ first + 1 + length runs = omega arith in
    (are.0, one_more program names plan limit (first + 1) runs run are.1 (subst (λ n. IsEndBy program names plan limit n run) there is))

-- the plan of one of the seeds has this fault
pub one_is_refused : (seeds : Seeds) (names : List (List ℕ)) (plan : List ℕ) (f : PlanFault) (number seed : ℕ)
    → number < seeds.count → seed ≡ seeds.first + number → words_in_plan names (plan_by plan seeds.limit seed) ≡ Err f
    → (n : ℕ) × (IsSeedOf seeds n × (words_in_plan names (plan_by plan seeds.limit n) ≡ Err f))
one_is_refused seeds names plan f number seed less is refused = (seed, ((omega (arith, is), omega (arith, less, is)), refused))

-- the first of two, where each is told of a run or of none
either : (run other : Option Ended) (unlike more : Option Unlike) → IsUnlike run unlike → IsUnlike other more
    → IsUnlike (option_or run other) (option_or unlike more)
either None other None more is also = also
either None other (Some unlike) more is also = absurd is
either (Some run) other None more is also = absurd is
either (Some run) other (Some unlike) more is also = is

-- the first that ended otherwise, with one run more
pub one_more_unlike : (expected : List (Vec ℕ)) (runs : List Ended) (run : Ended) (unlike more : Option Unlike)
    → IsFirstUnlike expected runs unlike → IsFirstUnlike expected (run ∷ []) more
    → IsFirstUnlike expected (runs ++ run ∷ []) (option_or unlike more)
one_more_unlike expected runs run unlike more is also =
    subst (λ r. IsUnlike r (option_or unlike more)) (sym (find-append (is_unlike expected) runs (run ∷ [])))
    (either (find (is_unlike expected) runs) (find (is_unlike expected) (run ∷ [])) unlike more is also)

-- what is told of one run
pub judged : (expected : List (Vec ℕ)) (run : Ended) (state : List ℕ) (unlike : Option Unlike) → run.state ≡ state
    → IsUnlike (cond (not (are_met state expected)) (Some run) None) unlike → IsFirstUnlike expected (run ∷ []) unlike
judged expected run state unlike is told =
    subst (λ s. IsUnlike (cond (not (are_met s expected)) (Some run) None) unlike) (sym is) told

-- what is played of a copy of a program, by a text that is the plan's, is played of the program by the plan
pub copy_played : (program copy : Loaded) (names : List (List ℕ)) (plan text : List ℕ) (answer : Result Planned Unplanned)
    → copy ≡ program → text ≡ plan
    → IfOk answer (λ planned. (progress : Progress) × (Plays copy 1000000 names text progress × Shows planned progress))
    → IfOk answer (λ planned. (progress : Progress) × (Plays program 1000000 names plan progress × Shows planned progress))
copy_played program copy names plan text answer is also played =
    subst (λ t. IfOk answer (λ planned. (progress : Progress) × (Plays program 1000000 names t progress × Shows planned progress))) also
    (subst (λ p. IfOk answer (λ planned. (progress : Progress) × (Plays p 1000000 names text progress × Shows planned progress))) is played)

-- what the plan of a seed comes to is a run of it
pub seed_played : (program : Loaded) (names : List (List ℕ)) (plan : List ℕ) (limit : Option ℕ) (seed : ℕ) (planned : Planned) (run : Ended)
    → (progress : Progress) × (Plays program 1000000 names (plan_by plan limit seed) progress × Shows planned progress)
    → AreRuns planned.runs.items → IsEndOf planned seed run → IsEndBy program names plan limit seed run
seed_played program names plan limit seed planned run (progress, (plays, shows)) are (seeded, schedule, standing, state) = (
  progress,
  (
    planned.runs.items,
    (
      plays,
      are,
      shows.choices,
      seeded,
      schedule,
      standing ∙ ap (λ (world : World). standing_of world) shows.world,
      state ∙ ap (λ (world : World). end_text run.ending world) shows.world,
    ),
  ),
)
