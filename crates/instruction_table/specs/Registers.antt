-- The values of a thread's registers.
use Rattle.std.specs.Prelude.{ℤ, pos, List, replicate, slice_index_or, slice_set}
use Rattle.instruction_table.specs.{declared.register.Reg.Reg, Register.number_of}

-- the registers at a thread's start: eight zeros
abbrev pub all_zero : List ℤ
all_zero = replicate 8 (pos 0)

-- the number in a register
abbrev pub value_in : List ℤ → Reg → ℤ
value_in regs reg = slice_index_or regs (number_of reg) (pos 0)

-- the registers with another number in one of them
abbrev pub with_value : List ℤ → Reg → ℤ → List ℤ
with_value regs reg value = slice_set regs (number_of reg) value
