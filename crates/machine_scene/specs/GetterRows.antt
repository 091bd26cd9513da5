-- Rows that read a phaser.
use Rattle.std.specs.Prelude.{ℕ, ℤ, pos, ◌-ℤ◌, if◌then◌else◌, Option, Some, None, slice_get}
use Rattle.instruction_table.specs.declared.row.Row.{Row}
use Rattle.instruction_table.specs.declared.row.Row.TheVariants.{Pphase, Pparties, Parrived, Punarr, Pterm, Pparent, Proot}
use Rattle.packed_phaser.specs.Flat.{view_of, unarrived_of}
use Rattle.tier_tree.specs.Forest.{phaser_at, flat_at, root_at}
use Rattle.thread_state.specs.Thread.{turn_of_answer}
use Rattle.machine_scene.specs.Scene.{Scene, Outcome, alone}

-- a phaser's number, or -1 for none
abbrev pub number_or_none : Option ℕ → ℤ
number_or_none (Some id) = pos id
number_or_none None = pos 0 -ℤ pos 1

-- what such a row does; a row of another group has no outcome here
abbrev pub outcome_of_getter_row : Row → ℕ → Scene → Option Outcome
outcome_of_getter_row (Pphase into p) t scene = Some (alone (turn_of_answer into (view_of (flat_at scene.phasers p))) t scene)
outcome_of_getter_row (Pparties into p) t scene =
    Some (alone (turn_of_answer into (pos (flat_at scene.phasers p).parties)) t scene)
outcome_of_getter_row (Parrived into p) t scene =
    Some (alone (turn_of_answer into (pos (flat_at scene.phasers p).arrived)) t scene)
outcome_of_getter_row (Punarr into p) t scene =
    Some (alone (turn_of_answer into (pos (unarrived_of (flat_at scene.phasers p)))) t scene)
outcome_of_getter_row (Pterm into p) t scene =
    Some (alone (turn_of_answer into (if (flat_at scene.phasers p).ended then pos 1 else pos 0)) t scene)
outcome_of_getter_row (Pparent into p) t scene =
    Some (alone (turn_of_answer into (number_or_none (slice_get (phaser_at scene.phasers p).line 1))) t scene)
outcome_of_getter_row (Proot into p) t scene = Some (alone (turn_of_answer into (pos (root_at scene.phasers p))) t scene)
outcome_of_getter_row _ t scene = None
