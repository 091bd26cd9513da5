-- The schedule of a plan, by the parts that it is made of.
use Rattle.std.proofs.Common.{◌≡◌, ◌∙◌, ◌+◌, ◌≤◌, ◌++◌, ℕ, Bool, List, [], ◌∷◌, length, map, refl, sym, subst, ap, arith, Err, IfOk, Ok, Option, Result, Some}
use Rattle.std.proofs.lemmas.List.{length-map, map-append, FromFn.length-map-range_with_len, FromFn.map-range_with_len_more}
use Rattle.std.specs.{Io.KnownBytes.Appends, Borrow.Bor}
use Rattle.assembler.specs.Symbols.{SymbolTable}
use Rattle.commands.specs.{Choices.schedule_line, Named.line_by, Seeds.HaveNoReport, Seeds.IsSeedOf, Seeds.plan_by}
use Rattle.commands.specs.Planning.{ComesOfPlan, HasNamedPlanned, HasPlanned, HasThreads, Plays, thread_name, thread_names}
use Rattle.commands.specs.{Unplanned.unplanned_status, declared.seeds.Seeds.Seeds, declared.unplanned.Unplanned.Unplanned}
use Rattle.commands.specs.declared.unplanned.Unplanned.TheVariants as why
use Rattle.loader.specs.Program.{IsProgramOf, Program as Loaded}
use Rattle.row_code.specs.declared.image.Image.{Image}
use Rattle.workbench.specs.declared.{fault.Fault.Fault, program.Program.Program}
use Rattle.workbench.specs.declared.fault.Fault.TheVariants as fault
use Rattle.line_reader.specs.Seen.{name_seen}
use Rattle.plans.specs.{Plan.words_in_plan, Tree.IsPlan, declared.word.Word.Word, declared.fault.PlanFault.PlanFault}
use Rattle.plans.specs.{Planned.AreRuns, Planned.IsPlanOf, Planned.Shows, Progress.Progress, declared.planned.Planned.Planned}

-- the name of one thread more
pub one_more : (symbols : SymbolTable) (names after : List (Bor (List ℕ))) (name : Bor (List ℕ)) (thread : ℕ)
    → after ≡ names ++ name ∷ [] → map name_seen names ≡ thread_names symbols thread → name.now ≡ thread_name symbols thread
    → map name_seen after ≡ thread_names symbols (thread + 1)
one_more symbols names after name thread is before named =
    let here : 0 + thread ≡ thread = omega arith in
    ap (map name_seen) is ∙ (map-append name_seen names (name ∷ [])
    ∙ (ap (λ (ns : List (List ℕ)). ns ++ name.now ∷ []) before
    ∙ (ap (λ (n : List ℕ). thread_names symbols thread ++ n ∷ []) named
    ∙ sym (map-range_with_len_more (thread_name symbols) 0 thread thread here))))

-- there are as many names as threads
pub few_names : (symbols : SymbolTable) (names : List (Bor (List ℕ))) (count : ℕ)
    → map name_seen names ≡ thread_names symbols count → count ≤ 64 → length names ≤ 64
few_names symbols names count are few = grind (arith, length-map, length-map-range_with_len)

-- a plan that is read is played
pub plan_played : (most : ℕ) (names : List (List ℕ)) (plan : List ℕ) (program : Loaded) (planned : Planned) (words taken : List Word)
    → words_in_plan names plan ≡ Ok words → IsPlan words → taken ≡ words → IsPlanOf program most taken planned
    → (progress : Progress) × (Plays program most names plan progress × Shows planned progress)
plan_played most names plan program planned words taken read whole also shows = grind arith

-- what a plan comes to on a loaded program, it comes to on the program
pub comes_of_plan : (most : ℕ) (program : Program) (image : Image) (loaded : Loaded) (names seen : List (Bor (List ℕ))) (plan : List ℕ)
    (answer : Result Planned Unplanned) → image ≡ program.image → seen ≡ names → IsProgramOf image loaded
    → HasThreads image program.names (map name_seen names)
    → IfOk answer (λ planned. (progress : Progress) × (Plays loaded most (map name_seen seen) plan progress × Shows planned progress))
    → IfOk answer (λ planned. (progress : Progress) × (ComesOfPlan program most plan progress × Shows planned progress))
comes_of_plan most program image loaded names seen plan (Ok planned) is same of has p = (
  p.0,
  (
    (
      loaded,
      (
        map name_seen names,
        (
          subst (λ i. HasThreads i program.names (map name_seen names)) is has,
          subst (λ i. IsProgramOf i loaded) is of,
          subst (λ (ns : List (Bor (List ℕ))). Plays loaded most (map name_seen ns) plan p.0) same p.1.0,
        ),
      ),
    ),
    p.1.1,
  ),
)
comes_of_plan most program image loaded names seen plan (Err reason) is same of has p = tt

-- it is written
pub plan_written : (most : ℕ) (answer : Result Bool Unplanned) (planned : Planned) (program : Program) (plan : List ℕ) (old new : Option (List ℕ))
    → (progress : Progress) × (ComesOfPlan program most plan progress × Shows planned progress)
    → AreRuns planned.runs.items → IfOk answer (λ stopped. stopped ≡ planned.stopped)
    → IfOk answer (λ _. Appends old new (schedule_line planned.runs.items))
    → IfOk answer (λ stopped. HasPlanned stopped program most plan old new)
plan_written most (Ok stopped) planned program plan old new (progress, (comes, shows)) are told appends =
    (schedule_line planned.runs.items, (progress, (comes, (planned.runs.items, (are, shows.choices, refl, told ∙ shows.stopped)), appends)))
plan_written most (Err reason) planned program plan old new p are told appends = tt

-- it is written with the names of the threads
pub named_written : (most : ℕ) (answer : Result Bool Unplanned) (planned : Planned) (program : Program) (names seen : List (Bor (List ℕ))) (plan : List ℕ) (old new : Option (List ℕ))
    → (progress : Progress) × (ComesOfPlan program most plan progress × Shows planned progress)
    → HasThreads program.image program.names (map name_seen names) → seen ≡ names → AreRuns planned.runs.items
    → IfOk answer (λ stopped. stopped ≡ planned.stopped)
    → IfOk answer (λ _. Appends old new (line_by (Some (map name_seen seen)) planned.runs.items))
    → IfOk answer (λ stopped. HasNamedPlanned stopped program most plan old new)
named_written most (Err reason) planned program names seen plan old new p has same are told appends = tt
named_written most (Ok stopped) planned program names seen plan old new (progress, (comes, shows)) has same are told appends =
    let line = line_by (Some (map name_seen seen)) planned.runs.items in (
      map name_seen seen,
      (
        line,
        (
          progress,
          (
            subst (λ (ns : List (Bor (List ℕ))). HasThreads program.image program.names (map name_seen ns)) (sym same) has,
            comes,
            (planned.runs.items, (are, shows.choices, refl, told ∙ shows.stopped)),
            appends,
          ),
        ),
      ),
    )

-- why the orders of seeds are not reported
pub no_report : (reason : Unplanned) (program : Program) (names : List (List ℕ)) (plan : List ℕ) (seeds : Seeds)
    → HasThreads program.image program.names names
    → ((f : PlanFault) → reason ≡ why.Plan f
    → (seed : ℕ) × (IsSeedOf seeds seed × (words_in_plan names (plan_by plan seeds.limit seed) ≡ Err f)))
    → ((f : Fault) → reason ≡ why.Fault f → f ≡ fault.Memory) → unplanned_status reason ≡ 3
    → HaveNoReport reason program plan seeds
no_report (why.Plan f) program names plan seeds has refused other three = (names, (has, refused f refl))
no_report (why.Fault f) program names plan seeds has refused other three = absurd (cc (other f refl, three))
