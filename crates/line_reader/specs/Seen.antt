-- What each value of the code represents in the definitions. A name represents the bytes that it borrows, wherever they
-- are.
use Rattle.std.specs.Prelude.{ℕ, List, Result, Ok, Err, option_map}
use Rattle.std.specs.Borrow.{Bor}
use Rattle.line_reader.specs.declared.reference.Reference.{Reference, TheVariants.Named, TheVariants.Numbered}
use Rattle.line_reader.specs.declared.symbolic_row.{Operand.Operand, SymbolicRow.SymbolicRow}
use Rattle.line_reader.specs.declared.symbolic_phaser.{SymbolicPolicy.SymbolicPolicy, SymbolicPhaser.SymbolicPhaser}
use Rattle.line_reader.specs.declared.{symbolic_barrier.SymbolicBarrier.SymbolicBarrier, statement.Statement.Statement}
use Rattle.line_reader.specs.{declared.symbolic_thread.SymbolicThread.SymbolicThread, Symbols.Name}
use Rattle.line_reader.specs.declared.symbolic_row.Operand.TheVariants as operand
use Rattle.line_reader.specs.declared.symbolic_phaser.SymbolicPolicy.TheVariants as policy
use Rattle.line_reader.specs.declared.statement.Statement.TheVariants as statement

abbrev pub Borrowed : Type 0
Borrowed = Bor (List ℕ)

abbrev pub name_seen : Borrowed → Name
name_seen name = name.now

abbrev pub reference_seen : Reference Borrowed → Reference Name
reference_seen (Named name) = Named name.now
reference_seen (Numbered number) = Numbered number

abbrev pub operand_seen : Operand Borrowed → Operand Name
operand_seen operand.Absent = operand.Absent
operand_seen (operand.Register reg) = operand.Register reg
operand_seen (operand.Number value) = operand.Number value
operand_seen (operand.Object kind reference) = operand.Object kind (reference_seen reference)

abbrev pub row_seen : SymbolicRow Borrowed → SymbolicRow Name
row_seen row = record {
  opcode = row.opcode;
  first = operand_seen row.first;
  second = operand_seen row.second;
  third = operand_seen row.third;
  fourth = operand_seen row.fourth;
}

abbrev pub policy_seen : SymbolicPolicy Borrowed → SymbolicPolicy Name
policy_seen policy.Default = policy.Default
policy_seen policy.Never = policy.Never
policy_seen (policy.Until phase) = policy.Until phase
policy_seen (policy.Routine row) = policy.Routine (reference_seen row)

abbrev pub phaser_seen : SymbolicPhaser Borrowed → SymbolicPhaser Name
phaser_seen p = record {
  name = p.name.now;
  parties = p.parties;
  parent = option_map reference_seen p.parent;
  first_phase = p.first_phase;
  policy = policy_seen p.policy;
}

abbrev pub barrier_seen : SymbolicBarrier Borrowed → SymbolicBarrier Name
barrier_seen b = record {
  name = b.name.now;
  parties = b.parties;
  action = option_map reference_seen b.action;
}

abbrev pub thread_seen : SymbolicThread Borrowed → SymbolicThread Name
thread_seen t = record { name = t.name.now; first_row = reference_seen t.first_row }

abbrev pub statement_seen : Statement Borrowed → Statement Name
statement_seen (statement.Phaser p) = statement.Phaser (phaser_seen p)
statement_seen (statement.Barrier b) = statement.Barrier (barrier_seen b)
statement_seen (statement.Thread t) = statement.Thread (thread_seen t)
statement_seen (statement.Cell name) = statement.Cell name.now
statement_seen (statement.Label name) = statement.Label name.now
statement_seen (statement.Row label row) = statement.Row (option_map name_seen label) (row_seen row)

-- the result of a call that needs no memory, with its names as bytes
abbrev pub seen : {X Y E : Type 0} → (X → Y) → Result X E → Result Y E
seen view (Ok x) = Ok (view x)
seen view (Err wrong) = Err wrong
