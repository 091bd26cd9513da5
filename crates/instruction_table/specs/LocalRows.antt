-- The rows that use only registers of their own thread, and what they do.
use Rattle.std.specs.Prelude.{ℕ, ◌+◌, ℤ, pos, ◌+ℤ◌, ◌-ℤ◌, Bool, true, false, not, int_lt, List, Option, Some, None, if◌then◌else◌}
use Rattle.std.specs.{Int.int_rem_euclid, Ordering.int_eq}
use Rattle.instruction_table.specs.{declared.register.Reg.Reg, declared.row.Row.Row, Registers.value_in, Registers.with_value}
use Rattle.instruction_table.specs.declared.row.Row.TheVariants.{Ldi, Mov, Add, Sub, Jmp, Beq, Bne, Blt}

-- the number from -2 ^ 31 to 2 ^ 31 - 1 that differs from z by a multiple of 2 ^ 32: what Java's `int` keeps of z
abbrev pub wrapped : ℤ → ℤ
wrapped z = int_rem_euclid (z +ℤ pos 2147483648) (pos 4294967296) -ℤ pos 2147483648

-- whether a row touches nothing but its own thread's registers and place
abbrev pub is_local_row : Row → Bool
is_local_row (Ldi _ _) = true
is_local_row (Mov _ _) = true
is_local_row (Add _ _ _) = true
is_local_row (Sub _ _ _) = true
is_local_row (Jmp _) = true
is_local_row (Beq _ _ _) = true
is_local_row (Bne _ _ _) = true
is_local_row (Blt _ _ _) = true
is_local_row _ = false

-- what a local row leaves of its thread: the registers, the number of the next row, and the number that the row put into a
-- register, if it did
pub record Local : Type 0 where
  pub registers : List ℤ
  pub pc : ℕ
  pub written : Option ℤ

-- a number was put into a register, and the next row follows
abbrev pub loads : List ℤ → ℕ → Reg → ℤ → Local
loads regs pc into value =
    record { registers = with_value regs into value; pc = pc + 1; written = Some value }

-- the registers stay, and the row with this number follows
abbrev pub goes_to : List ℤ → ℕ → Local
goes_to regs place = record { registers = regs; pc = place; written = None }

-- a jump that is taken or not: if it isn't, the next row follows
abbrev pub branches : List ℤ → ℕ → Bool → ℕ → Local
branches regs pc taken target = goes_to regs (if taken then target else pc + 1)

-- what each local row leaves of the registers and the place; other rows have no such effect, and leave both unchanged here
abbrev pub local_of : Row → List ℤ → ℕ → Local
local_of (Ldi into value) regs pc = loads regs pc into value
local_of (Mov into from) regs pc = loads regs pc into (value_in regs from)
local_of (Add into left right) regs pc =
    loads regs pc into (wrapped (value_in regs left +ℤ value_in regs right))
local_of (Sub into left right) regs pc =
    loads regs pc into (wrapped (value_in regs left -ℤ value_in regs right))
local_of (Jmp target) regs pc = goes_to regs target
local_of (Beq left right target) regs pc =
    branches regs pc (int_eq (value_in regs left) (value_in regs right)) target
local_of (Bne left right target) regs pc =
    branches regs pc (not (int_eq (value_in regs left) (value_in regs right))) target
local_of (Blt left right target) regs pc =
    branches regs pc (int_lt (value_in regs left) (value_in regs right)) target
local_of _ regs pc = goes_to regs pc
