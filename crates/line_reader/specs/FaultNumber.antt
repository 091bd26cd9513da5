-- The number with which each fault of a program's text is reported.
use Rattle.std.specs.Prelude.{ℕ, Option, Some, None}
use Rattle.line_reader.specs.declared.asm_fault.AsmFaultKind.{AsmFaultKind}
use Rattle.line_reader.specs.declared.asm_fault.AsmFaultKind.TheVariants as kind

-- the number of a fault of a program's text; missing memory is none of the text
abbrev pub asm_number : AsmFaultKind → Option ℕ
asm_number kind.BadByte = Some 1
asm_number kind.LongLine = Some 2
asm_number kind.UnknownWord = Some 3
asm_number kind.OperandCount = Some 4
asm_number kind.BadRegister = Some 5
asm_number kind.BadNumber = Some 6
asm_number kind.OutOfRange = Some 7
asm_number kind.BadName = Some 8
asm_number kind.UnknownName = Some 9
asm_number kind.NameTwice = Some 10
asm_number kind.MisplacedDirective = Some 11
asm_number kind.BadOption = Some 12
asm_number kind.TooMany = Some 13
asm_number kind.Memory = None
