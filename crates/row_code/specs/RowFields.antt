-- Which operand each field of a row's bytes has, and which rows are valid.
use Rattle.std.specs.Prelude.{ℕ, ℤ, pos, ◌<ℤ◌, FitsSigned}
use Rattle.std.specs.Int.{w32}
use Rattle.instruction_table.specs.{declared.row.Row.Row, Register.number_of}
use Rattle.instruction_table.specs.declared.row.Row.TheVariants.{Halt, Ldi, Mov, Add, Sub, Jmp, Beq, Bne, Blt, Call, Ret, Try, Endtry, Throw, Out, Lds, Sts, SelfNumber, Intr, Intrd, Preg, Pbulk, Parr, Pdereg, Paaa, Pawait, Pawaiti, Pforce, Pphase, Pparties, Parrived, Punarr, Pterm, Pparent, Proot, Cawait, Creset, Cbroken, Cwaiting, Cparties, Pawaitt, Cawaitt}
use Rattle.row_code.specs.declared.fields.Fields.{Fields}

-- fields with these contents
abbrev pub filled : ℕ → ℕ → ℕ → ℤ → Fields
filled a b c imm = record { a = a; b = b; c = c; imm = imm }

-- the registers of a row are in a, b and c, in the order of its text, and its other operand is in imm; a field that isn't used
-- is 0
abbrev pub fields_of : Row → Fields
fields_of Halt = filled 0 0 0 (pos 0)
fields_of (Ldi into value) = filled (number_of into) 0 0 value
fields_of (Mov into from) = filled (number_of into) (number_of from) 0 (pos 0)
fields_of (Add into left right) = filled (number_of into) (number_of left) (number_of right) (pos 0)
fields_of (Sub into left right) = filled (number_of into) (number_of left) (number_of right) (pos 0)
fields_of (Jmp target) = filled 0 0 0 (pos target)
fields_of (Beq left right target) = filled (number_of left) (number_of right) 0 (pos target)
fields_of (Bne left right target) = filled (number_of left) (number_of right) 0 (pos target)
fields_of (Blt left right target) = filled (number_of left) (number_of right) 0 (pos target)
fields_of (Call target) = filled 0 0 0 (pos target)
fields_of Ret = filled 0 0 0 (pos 0)
fields_of (Try handler) = filled 0 0 0 (pos handler)
fields_of Endtry = filled 0 0 0 (pos 0)
fields_of (Throw code) = filled (number_of code) 0 0 (pos 0)
fields_of (Out value) = filled (number_of value) 0 0 (pos 0)
fields_of (Lds into cell) = filled (number_of into) 0 0 (pos cell)
fields_of (Sts from cell) = filled (number_of from) 0 0 (pos cell)
fields_of (SelfNumber into) = filled (number_of into) 0 0 (pos 0)
fields_of (Intr thread) = filled 0 0 0 (pos thread)
fields_of (Intrd into) = filled (number_of into) 0 0 (pos 0)
fields_of (Preg into phaser) = filled (number_of into) 0 0 (pos phaser)
fields_of (Pbulk into phaser count) = filled (number_of into) (number_of count) 0 (pos phaser)
fields_of (Parr into phaser) = filled (number_of into) 0 0 (pos phaser)
fields_of (Pdereg into phaser) = filled (number_of into) 0 0 (pos phaser)
fields_of (Paaa into phaser) = filled (number_of into) 0 0 (pos phaser)
fields_of (Pawait into phaser phase) = filled (number_of into) (number_of phase) 0 (pos phaser)
fields_of (Pawaiti into phaser phase) = filled (number_of into) (number_of phase) 0 (pos phaser)
fields_of (Pforce phaser) = filled 0 0 0 (pos phaser)
fields_of (Pphase into phaser) = filled (number_of into) 0 0 (pos phaser)
fields_of (Pparties into phaser) = filled (number_of into) 0 0 (pos phaser)
fields_of (Parrived into phaser) = filled (number_of into) 0 0 (pos phaser)
fields_of (Punarr into phaser) = filled (number_of into) 0 0 (pos phaser)
fields_of (Pterm into phaser) = filled (number_of into) 0 0 (pos phaser)
fields_of (Pparent into phaser) = filled (number_of into) 0 0 (pos phaser)
fields_of (Proot into phaser) = filled (number_of into) 0 0 (pos phaser)
fields_of (Cawait into barrier) = filled (number_of into) 0 0 (pos barrier)
fields_of (Creset barrier) = filled 0 0 0 (pos barrier)
fields_of (Cbroken into barrier) = filled (number_of into) 0 0 (pos barrier)
fields_of (Cwaiting into barrier) = filled (number_of into) 0 0 (pos barrier)
fields_of (Cparties into barrier) = filled (number_of into) 0 0 (pos barrier)
fields_of (Pawaitt into phaser phase timeout) =
    filled (number_of into) (number_of phase) (number_of timeout) (pos phaser)
fields_of (Cawaitt into barrier timeout) = filled (number_of into) (number_of timeout) 0 (pos barrier)

-- an operand of a row that is no register fits its kind: a number is an `int`, and a target or an
-- object's number is at most 65535
abbrev pub IsRow : Row → Type 0
IsRow (Ldi into value) = FitsSigned w32 value
IsRow row = (fields_of row).imm <ℤ pos 65536
