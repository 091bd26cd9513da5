-- What was written of the runs of an image's program.
use Rattle.std.proofs.Common.{◌≡◌, ◌⊎◌, ℕ, Bool, IsTrue, List, arith, Option, None, Result, Ok, Err, IfErr, IfOk, OnOk}
use Rattle.std.specs.Io.KnownBytes.{Appends}
use Rattle.row_code.specs.declared.image.Image.{Image}
use Rattle.loader.specs.{Fault.first_fault, Program.Program, Program.IsProgramOf}
use Rattle.thread_machine.specs.World.{first_world}
use Rattle.thread_machine.proofs.Firsts.{is_first}
use Rattle.commands.specs.declared.{many_runs.Asked.Asked, end_state.EndState.EndState, outcomes.Outcome.Outcome}
use Rattle.commands.specs.{Outcomes.IsMostFrequentFirst, Outcomes.report, Outcomes.done_by, Runs.AreOutcomesFrom, Runs.Reports}
use Rattle.workbench.specs.declared.{done.Done.Done, fault.Fault.Fault}
use Rattle.workbench.specs.declared.fault.Fault.TheVariants as fault

-- the report was written of a program, or why not
pub reported : (result : Result Done Fault) (image : Image) (program : Program) (asked : Asked)
    (outcomes : List (EndState × Outcome)) (before after : Option (List ℕ)) (failed : Bool)
    → first_fault image ≡ None → IsProgramOf image program
    → AreOutcomesFrom (first_world program asked.limit) asked outcomes → IsMostFrequentFirst outcomes
    → IfOk result (λ d. d ≡ done_by asked.expected.now outcomes) → OnOk result (Appends before after (report None outcomes))
    → IfErr result (λ f. (f ≡ fault.Memory) ⊎ (f ≡ fault.Write)) → (result ≡ Err fault.Memory → after ≡ before)
    → (result ≡ Err fault.Write → IsTrue failed) → Reports asked image result before after failed
reported (Ok d) image program asked outcomes before after failed loads is came sorted by written which same write = (
  first_world program asked.limit,
  (outcomes, (loads, is_first image program asked.limit is, came, sorted, by, written)),
)
reported result image program asked outcomes before after failed loads is came sorted by written which same write = grind (arith, is_first)
