-- What a turn may change beside its own thread is there; and phasers that it left as they were changed within it.
use Rattle.std.proofs.Common.{◌≡◌, List, true, arith, Option}
use Rattle.instruction_table.specs.declared.row.Row.{Row}
use Rattle.tier_tree.specs.Stored.{Stored}
use Rattle.tier_tree.proofs.Changed.{changed_nothing}
use Rattle.loader.specs.Program.{Program, IsNamed}
use Rattle.thread_state.specs.declared.{frame.Frame.Frame, status.Status.Status}
use Rattle.machine_scene.specs.{declared.reach.Reach.Reach, Scene.StoredScene, Scene.counts_in, Sound.IsTop}
use Rattle.machine_scene.specs.{ReadySet.is_local_turn, Undo.IsThere, Undo.PhasersWithin, Undo.reach_in}
use Rattle.machine_scene.specs.declared.reach.Reach.TheVariants as reach

pub reach_there : (state : Status) (row : Row) (top : Option Frame) (program : Program) (stored : StoredScene)
    → IsNamed (counts_in stored) row → IsTop program stored top → IsThere (reach_in state row top) stored
reach_there state row top program stored named is = grind arith

-- a turn on registers alone touches nothing beside its thread
pub local_reach : (state : Status) (row : Row) (top : Option Frame) → is_local_turn state row ≡ true → reach_in state row top ≡ reach.Nothing
local_reach state row top is = grind arith

pub within_same : (reach : Reach) (before after : List Stored) → after ≡ before → PhasersWithin reach before after
within_same reach before after same = grind (arith, changed_nothing)
