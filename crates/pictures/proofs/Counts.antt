-- How many choices are left of runs.
use Rattle.std.proofs.Common.{◌≡◌, ◌∙◌, ℕ, ◌+◌, ◌<◌, ◌≤◌, List, ◌++◌, length, get_or, drop, replicate, ap, arith, length-append}
use Rattle.std.proofs.lemmas.List.{length-replicate}
use Rattle.schedule_reader.specs.{declared.run.Run.Run, Schedule.choices_of}
use Rattle.thread_machine.specs.declared.choice.Choice.{Choice}
use Rattle.trace_text.proofs.Traces.{flat_map-drop}

-- those of one run, and of the others
counted : (runs : List Run) (i : ℕ) (d : Run) → i < length runs
    → length (choices_of (drop i runs)) ≡ (get_or runs i d).times + length (choices_of (drop (i + 1) runs))
counted runs i d there =
    ap (λ (cs : List Choice). length cs) (flat_map-drop (λ (run : Run). replicate run.times run.choice) runs i d there)
    ∙ length-append (replicate (get_or runs i d).times (get_or runs i d).choice) (choices_of (drop (i + 1) runs))
    ∙ ap (λ n. n + length (choices_of (drop (i + 1) runs))) (length-replicate (get_or runs i d).times (get_or runs i d).choice)

-- there is room for one run more among so many choices
pub room : (runs : List Run) (i : ℕ) (d : Run) (made : List Choice) (most : ℕ) → i < length runs
    → made ++ choices_of (drop i runs) ≡ choices_of runs → length (choices_of runs) ≤ most
    → length made + (get_or runs i d).times ≤ most
room runs i d made most there is few =
    let same = ap (λ (cs : List Choice). length cs) is in
    omega (arith, counted runs i d there, length-append made (choices_of (drop i runs)), same, few)
