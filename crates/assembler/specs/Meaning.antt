-- The image that a text represents.
use Rattle.std.specs.Prelude.{◌≡◌, ◌⊎◌, ℕ, ◌+◌, ◌&&◌, Bool, true, pos, List, [], ◌∷◌, Option, Some, None, option_map, is_some}
use Rattle.std.specs.List.{flat_map, list_all}
use Rattle.instruction_table.specs.declared.{register.Reg.TheVariants.R0, row.Row.Row, shape.OperandKind.OperandKind}
use Rattle.instruction_table.specs.declared.shape.OperandKind.TheVariants as kind
use Rattle.row_code.specs.declared.{barriers.DeclaredBarrier.DeclaredBarrier, image.Image.Image, operands.Operands.Operands}
use Rattle.row_code.specs.declared.phasers.{DeclaredPhaser.DeclaredPhaser, DeclaredPolicy.DeclaredPolicy}
use Rattle.row_code.specs.{declared.threads.DeclaredThread.DeclaredThread, RowOperands.row_with}
use Rattle.row_code.specs.declared.phasers.DeclaredPolicy.TheVariants as declared
use Rattle.line_reader.specs.declared.reference.Reference.{Reference, TheVariants.Named, TheVariants.Numbered}
use Rattle.line_reader.specs.declared.{symbolic_row.Operand.Operand, symbolic_row.SymbolicRow.SymbolicRow, statement.Line.Line}
use Rattle.line_reader.specs.declared.symbolic_phaser.{SymbolicPolicy.SymbolicPolicy, SymbolicPhaser.SymbolicPhaser}
use Rattle.line_reader.specs.declared.{symbolic_barrier.SymbolicBarrier.SymbolicBarrier, statement.Statement.Statement}
use Rattle.line_reader.specs.{declared.symbolic_thread.SymbolicThread.SymbolicThread, Words.lines_of}
use Rattle.line_reader.specs.{Symbols.Name, Symbols.operands_in, Spelling.Says, Spelling.SaysNothing}
use Rattle.line_reader.specs.declared.symbolic_row.Operand.TheVariants as operand
use Rattle.line_reader.specs.declared.symbolic_phaser.SymbolicPolicy.TheVariants as policy
use Rattle.line_reader.specs.declared.statement.Statement.TheVariants as statement
use Rattle.assembler.specs.Statements.{number_named, EachFollows}

-- the number of the row or the object of a kind that is referred to, if there is one
abbrev pub referent : List (Line Name) → OperandKind → Reference Name → Option ℕ
referent lines k (Numbered n) = Some n
referent lines k (Named name) = number_named k name lines

-- whether there is one: a number is not looked up
abbrev pub is_known : List (Line Name) → OperandKind → Reference Name → Bool
is_known lines k reference = is_some (referent lines k reference)

abbrev pub is_known_or_none : List (Line Name) → OperandKind → Option (Reference Name) → Bool
is_known_or_none lines k None = true
is_known_or_none lines k (Some reference) = is_known lines k reference

abbrev pub is_policy_known : List (Line Name) → SymbolicPolicy Name → Bool
is_policy_known lines (policy.Routine row) = is_known lines kind.Target row
is_policy_known lines _ = true

abbrev pub is_operand_known : List (Line Name) → Operand Name → Bool
is_operand_known lines (operand.Object k reference) = is_known lines k reference
is_operand_known lines _ = true

-- whether each name that a statement refers to is the name of something of the required kind
abbrev pub are_known : List (Line Name) → Statement Name → Bool
are_known lines (statement.Phaser p) =
    is_known_or_none lines kind.Phaser p.parent && is_policy_known lines p.policy
are_known lines (statement.Barrier b) = is_known_or_none lines kind.Target b.action
are_known lines (statement.Thread t) = is_known lines kind.Target t.first_row
are_known lines (statement.Row label row) = list_all (is_operand_known lines) (operands_in row)
are_known lines _ = true

-- names read as numbers; an unknown name reads as 0, but if all are known there is none
abbrev pub number_or_0 : Option ℕ → ℕ
number_or_0 None = 0
number_or_0 (Some n) = n

abbrev pub referent_or_0 : List (Line Name) → OperandKind → Reference Name → ℕ
referent_or_0 lines k reference = number_or_0 (referent lines k reference)

abbrev pub policy_of : List (Line Name) → SymbolicPolicy Name → DeclaredPolicy
policy_of lines policy.Default = declared.Default
policy_of lines policy.Never = declared.Never
policy_of lines (policy.Until phase) = declared.Until phase
policy_of lines (policy.Routine row) = declared.Routine (referent_or_0 lines kind.Target row)

abbrev pub phaser_of : List (Line Name) → SymbolicPhaser Name → DeclaredPhaser
phaser_of lines p = record {
  parent = option_map (referent_or_0 lines kind.Phaser) p.parent;
  policy = policy_of lines p.policy;
  parties = p.parties;
  first_phase = p.first_phase;
}

abbrev pub barrier_of : List (Line Name) → SymbolicBarrier Name → DeclaredBarrier
barrier_of lines b = record {
  parties = b.parties;
  action = option_map (referent_or_0 lines kind.Target) b.action;
}

abbrev pub thread_of : List (Line Name) → SymbolicThread Name → DeclaredThread
thread_of lines t = record { first_row = referent_or_0 lines kind.Target t.first_row }

-- one more operand before these: a register is the first of them, and the others move on
abbrev pub with_operand : List (Line Name) → Operand Name → Operands → Operands
with_operand lines operand.Absent o = o
with_operand lines (operand.Register reg) o =
    record { a = reg; b = o.a; c = o.b; number = o.number; object = o.object }
with_operand lines (operand.Number value) o =
    record { a = o.a; b = o.b; c = o.c; number = value; object = o.object }
with_operand lines (operand.Object k reference) o =
    record { a = o.a; b = o.b; c = o.c; number = o.number; object = referent_or_0 lines k reference }

-- the registers in the order of the text, and the operand that is no register
abbrev pub operands_of : List (Line Name) → List (Operand Name) → Operands
operands_of lines [] = record { a = R0; b = R0; c = R0; number = pos 0; object = 0 }
operands_of lines (operand ∷ operands) =
    with_operand lines operand (operands_of lines operands)

abbrev pub row_of : List (Line Name) → SymbolicRow Name → Row
row_of lines row = row_with row.opcode (operands_of lines (operands_in row))

-- the phaser that a statement declares, none of any other statement; the names are those of all lines
abbrev pub phasers_in : List (Line Name) → Statement Name → List DeclaredPhaser
phasers_in lines (statement.Phaser p) = phaser_of lines p ∷ []
phasers_in lines _ = []

-- the barrier that it declares
abbrev pub barriers_in : List (Line Name) → Statement Name → List DeclaredBarrier
barriers_in lines (statement.Barrier b) = barrier_of lines b ∷ []
barriers_in lines _ = []

-- the thread that it declares
abbrev pub threads_in : List (Line Name) → Statement Name → List DeclaredThread
threads_in lines (statement.Thread t) = thread_of lines t ∷ []
threads_in lines _ = []

-- the row that it is
abbrev pub rows_in : List (Line Name) → Statement Name → List Row
rows_in lines (statement.Row label row) = row_of lines row ∷ []
rows_in lines _ = []

-- the phasers, barriers, threads and rows of all lines, each in their order
abbrev pub image_of : List (Line Name) → Image
image_of lines = record {
  phasers = flat_map (λ line. phasers_in lines line.statement) lines;
  barriers = flat_map (λ line. barriers_in lines line.statement) lines;
  threads = flat_map (λ line. threads_in lines line.statement) lines;
  rows = flat_map (λ line. rows_in lines line.statement) lines;
}

-- the lines from a number on say this, in order; a line that says nothing is left out, and the numbers are only used for faults
abbrev pub SayInOrder : ℕ → List (List ℕ) → List (Line Name) → Type 0
SayInOrder n [] lines = lines ≡ []
SayInOrder n (text ∷ texts) lines =
    (SaysNothing text × SayInOrder (n + 1) texts lines)
    ⊎ ((said : Statement Name) × (others : List (Line Name))
    × (lines ≡ record { number = n; statement = said } ∷ others)
    × Says text said × SayInOrder (n + 1) texts others)

-- the image that a text stands for: its lines say, in order, what the image has; each line may follow the lines before it; and
-- each name that is referred to is known
abbrev pub StandsFor : List ℕ → Image → Type 0
StandsFor text image =
    (lines : List (Line Name)) × SayInOrder 1 (lines_of text) lines × EachFollows [] lines
    × (list_all (λ line. are_known lines line.statement) lines ≡ true) × (image ≡ image_of lines)
