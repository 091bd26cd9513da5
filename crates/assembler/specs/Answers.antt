-- How the result of a call is compared with the result of the definitions. Any call may be out of memory instead.
use Rattle.std.specs.Prelude.{◌≡◌, ◌⊎◌, ℕ, Bool, true, false, Result, Ok, Err}
use Rattle.row_code.specs.Answers.{Answers, FailsUnless}
use Rattle.line_reader.specs.declared.asm_fault.{AsmFault.AsmFault, AsmFaultKind.AsmFaultKind, WordFault.WordFault}
use Rattle.line_reader.specs.Reading.{fault_at}
use Rattle.assembler.specs.declared.placed.PlacedFault.{PlacedFault}
use Rattle.line_reader.specs.declared.asm_fault.AsmFaultKind.TheVariants as fault

-- whether a fault is out of memory, which any call may return instead of its result
abbrev pub is_memory : AsmFaultKind → Bool
is_memory fault.Memory = true
is_memory _ = false

-- a fault of this kind is the one that is read, unless it is out of memory
abbrev pub FailsAt : {Y : Type 0} → AsmFaultKind → AsmFault → Result Y AsmFault → Type 0
FailsAt kind e read = FailsUnless (is_memory kind) e read

-- the result for the line of this number
abbrev pub at_line : {X : Type 0} → ℕ → Result X WordFault → Result X AsmFault
at_line number (Ok x) = Ok x
at_line number (Err refused) = Err (record { line = number; kind = refused.kind })

-- the result, seen through view, is what is read, unless the call is out of memory
abbrev pub AnswersAt : {X Y : Type 0} → (X → Y) → Result X AsmFault → Result Y AsmFault → Type 0
AnswersAt view answered read = Answers (λ e. is_memory e.kind) view answered read

-- a fault without its place
abbrev pub unplaced : {X : Type 0} → Result X PlacedFault → Result X AsmFault
unplaced (Ok x) = Ok x
unplaced (Err e) = Err e.fault

-- the same, whatever the place of the fault
abbrev pub AnswersPlaced : {X Y : Type 0} → (X → Y) → Result X PlacedFault → Result Y AsmFault → Type 0
AnswersPlaced view answered read = AnswersAt view (unplaced answered) read

-- the fault of a word is the one that is read, or out of memory, which is at no word
abbrev pub IsWrong : {Y : Type 0} → WordFault → Result Y WordFault → Type 0
IsWrong wrong read = (wrong ≡ fault_at 0 fault.Memory) ⊎ (read ≡ Err wrong)
