-- A choice comes to the same however the phasers of its program are stored.
use Rattle.std.proofs.Common.{◌≡◌, ℕ, List, arith}
use Rattle.instruction_table.specs.declared.row.Row.{Row}
use Rattle.tier_tree.specs.Stored.{Stored}
use Rattle.loader.specs.Program.{Program}
use Rattle.thread_state.specs.declared.status.Status.{Status}
use Rattle.machine_scene.specs.{Scene.Scene, Outcomes.outcome_in}
use Rattle.thread_machine.specs.{declared.choice.Choice.Choice, Ready.outcome_of_choice, Ready.some_ready}

-- a program whose phasers are stored otherwise
abbrev pub stored_in : List Stored → Program → Program
stored_in phasers program = record program { phasers = phasers }

turn_by-same : (phasers : List Stored) (now : Status) (row : Row) (t : ℕ) (program : Program) (scene : Scene)
    → outcome_in now row t (stored_in phasers program) scene ≡ outcome_in now row t program scene
turn_by-same phasers now row t program scene = grind arith

-- a turn, or an expiry
pub outcome-same : (phasers : List Stored) (program : Program) (choice : Choice) (scene : Scene)
    → outcome_of_choice (stored_in phasers program) choice scene ≡ outcome_of_choice program choice scene
outcome-same phasers program choice scene = grind (arith, turn_by-same)

-- whether any choice may take a step
pub some_ready-same : (phasers : List Stored) (program : Program) (scene : Scene)
    → some_ready (stored_in phasers program) scene ≡ some_ready program scene
some_ready-same phasers program scene = grind (arith, turn_by-same)
