-- The opcode of each row, and which rows have a timeout.
use Rattle.std.specs.Prelude.{ℕ, Bool, true, false}
use Rattle.instruction_table.specs.declared.row.Row.{Row}
use Rattle.instruction_table.specs.declared.row.Row.TheVariants.{Halt, Ldi, Mov, Add, Sub, Jmp, Beq, Bne, Blt, Call, Ret, Try, Endtry, Throw, Out, Lds, Sts, SelfNumber, Intr, Intrd, Preg, Pbulk, Parr, Pdereg, Paaa, Pawait, Pawaiti, Pforce, Pphase, Pparties, Parrived, Punarr, Pterm, Pparent, Proot, Cawait, Creset, Cbroken, Cwaiting, Cparties, Pawaitt, Cawaitt}

-- the opcode of a row, whatever its operands
abbrev pub opcode_of : Row → ℕ
opcode_of Halt = 0
opcode_of (Ldi _ _) = 1
opcode_of (Mov _ _) = 2
opcode_of (Add _ _ _) = 3
opcode_of (Sub _ _ _) = 4
opcode_of (Jmp _) = 5
opcode_of (Beq _ _ _) = 6
opcode_of (Bne _ _ _) = 7
opcode_of (Blt _ _ _) = 8
opcode_of (Call _) = 9
opcode_of Ret = 10
opcode_of (Try _) = 11
opcode_of Endtry = 12
opcode_of (Throw _) = 13
opcode_of (Out _) = 14
opcode_of (Lds _ _) = 15
opcode_of (Sts _ _) = 16
opcode_of (SelfNumber _) = 17
opcode_of (Intr _) = 18
opcode_of (Intrd _) = 19
opcode_of (Preg _ _) = 20
opcode_of (Pbulk _ _ _) = 21
opcode_of (Parr _ _) = 22
opcode_of (Pdereg _ _) = 23
opcode_of (Paaa _ _) = 24
opcode_of (Pawait _ _ _) = 25
opcode_of (Pawaiti _ _ _) = 26
opcode_of (Pforce _) = 27
opcode_of (Pphase _ _) = 28
opcode_of (Pparties _ _) = 29
opcode_of (Parrived _ _) = 30
opcode_of (Punarr _ _) = 31
opcode_of (Pterm _ _) = 32
opcode_of (Pparent _ _) = 33
opcode_of (Proot _ _) = 34
opcode_of (Cawait _ _) = 35
opcode_of (Creset _) = 36
opcode_of (Cbroken _ _) = 37
opcode_of (Cwaiting _ _) = 38
opcode_of (Cparties _ _) = 39
opcode_of (Pawaitt _ _ _ _) = 40
opcode_of (Cawaitt _ _ _) = 41

-- whether a row waits no longer than a timeout
abbrev pub is_timed_row : Row → Bool
is_timed_row (Pawaitt _ _ _ _) = true
is_timed_row (Cawaitt _ _ _) = true
is_timed_row _ = false
