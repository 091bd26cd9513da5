-- How each row arrives: whether the party leaves, and whether the thread waits.
use Rattle.std.specs.Prelude.{false, true}
use Rattle.instruction_table.specs.declared.{row.Row.Row, register.Reg.TheVariants.R0}
use Rattle.instruction_table.specs.declared.row.Row.TheVariants.{Parr, Pdereg, Paaa, Cawait, Cawaitt}
use Rattle.machine_scene.specs.declared.manner.Manner.{Manner}

-- how the arrival at this row is made; nobody arrives at another row, and no routine and no action begins there
abbrev pub manner_of : Row → Manner
manner_of (Parr into p) = record { into = into; leaves = false; waits = false }
manner_of (Pdereg into p) = record { into = into; leaves = true; waits = false }
manner_of (Paaa into p) = record { into = into; leaves = false; waits = true }
manner_of (Cawait into b) = record { into = into; leaves = false; waits = true }
manner_of (Cawaitt into b time) = record { into = into; leaves = false; waits = true }
manner_of _ = record { into = R0; leaves = false; waits = false }
