-- The group of each row: the rows of a group act on the same kind of thing. Only this file has ranges of opcodes.
use Rattle.std.specs.Prelude.{ℕ, ◌==◌, ◌||◌, nat_lt, if◌then◌else◌}
use Rattle.instruction_table.specs.{declared.row.Row.Row, Row.opcode_of, declared.group.Group.Group}
use Rattle.instruction_table.specs.declared.group.Group.TheVariants.{Own, Calls, Data, Phasers, Getters, Barriers}

-- the instruction table has the rows group by group; its last two, 40 and 41, wait with a timeout, at a phaser and at a barrier
abbrev pub group_at : ℕ → Group
group_at n =
    if nat_lt n 9 then Own else (if nat_lt n 14 then Calls else (if nat_lt n 20 then Data
    else (if nat_lt n 28 || (n == 40) then Phasers else (if nat_lt n 35 then Getters else Barriers))))

-- each row's group
abbrev pub group_of : Row → Group
group_of row = group_at (opcode_of row)
