-- The instruction table: for each kind of row its opcode, its word, and the kinds of its operands.
use Rattle.std.specs.Prelude.{ℕ, List, [], ◌∷◌, codes, bytes_eq, find, Option, Some, None, if◌then◌else◌, slice_index_or}
use Rattle.std.specs.Borrow.{Bor}
use Rattle.instruction_table.specs.declared.{row.Row.Row, shape.OperandKind.OperandKind, shape.Shape.Shape}
use Rattle.instruction_table.specs.declared.shape.OperandKind.TheVariants.{Register, Number, Target, Phaser, Barrier, Thread, Cell}
use Rattle.instruction_table.specs.Row.{opcode_of}

-- how a kind of row is spelled: its opcode, its word and the kinds of its operands in text order
pub record Entry : Type 0 where
  pub opcode : ℕ
  pub word : List ℕ
  pub operands : List OperandKind

-- an entry by its three parts
abbrev pub entry : ℕ → List ℕ → List OperandKind → Entry
entry opcode word operands = record { opcode = opcode; word = word; operands = operands }

-- the instruction table: each kind of row, at the place of its opcode
abbrev pub table : List Entry
table =
    entry 0 (codes "halt") [] ∷
    entry 1 (codes "ldi") (Register ∷ Number ∷ []) ∷
    entry 2 (codes "mov") (Register ∷ Register ∷ []) ∷
    entry 3 (codes "add") (Register ∷ Register ∷ Register ∷ []) ∷
    entry 4 (codes "sub") (Register ∷ Register ∷ Register ∷ []) ∷
    entry 5 (codes "jmp") (Target ∷ []) ∷
    entry 6 (codes "beq") (Register ∷ Register ∷ Target ∷ []) ∷
    entry 7 (codes "bne") (Register ∷ Register ∷ Target ∷ []) ∷
    entry 8 (codes "blt") (Register ∷ Register ∷ Target ∷ []) ∷
    entry 9 (codes "call") (Target ∷ []) ∷
    entry 10 (codes "ret") [] ∷
    entry 11 (codes "try") (Target ∷ []) ∷
    entry 12 (codes "endtry") [] ∷
    entry 13 (codes "throw") (Register ∷ []) ∷
    entry 14 (codes "out") (Register ∷ []) ∷
    entry 15 (codes "lds") (Register ∷ Cell ∷ []) ∷
    entry 16 (codes "sts") (Register ∷ Cell ∷ []) ∷
    entry 17 (codes "self") (Register ∷ []) ∷
    entry 18 (codes "intr") (Thread ∷ []) ∷
    entry 19 (codes "intrd") (Register ∷ []) ∷
    entry 20 (codes "preg") (Register ∷ Phaser ∷ []) ∷
    entry 21 (codes "pbulk") (Register ∷ Phaser ∷ Register ∷ []) ∷
    entry 22 (codes "parr") (Register ∷ Phaser ∷ []) ∷
    entry 23 (codes "pdereg") (Register ∷ Phaser ∷ []) ∷
    entry 24 (codes "paaa") (Register ∷ Phaser ∷ []) ∷
    entry 25 (codes "pawait") (Register ∷ Phaser ∷ Register ∷ []) ∷
    entry 26 (codes "pawaiti") (Register ∷ Phaser ∷ Register ∷ []) ∷
    entry 27 (codes "pforce") (Phaser ∷ []) ∷
    entry 28 (codes "pphase") (Register ∷ Phaser ∷ []) ∷
    entry 29 (codes "pparties") (Register ∷ Phaser ∷ []) ∷
    entry 30 (codes "parrived") (Register ∷ Phaser ∷ []) ∷
    entry 31 (codes "punarr") (Register ∷ Phaser ∷ []) ∷
    entry 32 (codes "pterm") (Register ∷ Phaser ∷ []) ∷
    entry 33 (codes "pparent") (Register ∷ Phaser ∷ []) ∷
    entry 34 (codes "proot") (Register ∷ Phaser ∷ []) ∷
    entry 35 (codes "cawait") (Register ∷ Barrier ∷ []) ∷
    entry 36 (codes "creset") (Barrier ∷ []) ∷
    entry 37 (codes "cbroken") (Register ∷ Barrier ∷ []) ∷
    entry 38 (codes "cwaiting") (Register ∷ Barrier ∷ []) ∷
    entry 39 (codes "cparties") (Register ∷ Barrier ∷ []) ∷
    entry 40 (codes "pawaitt") (Register ∷ Phaser ∷ Register ∷ Register ∷ []) ∷
    entry 41 (codes "cawaitt") (Register ∷ Barrier ∷ Register ∷ []) ∷
    []

-- the entry that a shape stands for
abbrev pub entry_of : Shape → Entry
entry_of shape = entry shape.opcode shape.word.now shape.operands.now

-- the entry that a line of the code's table stands for
abbrev pub entry_listed : ℕ × Bor (List ℕ) × Bor (List OperandKind) → Entry
entry_listed line = entry line.0 line.1.now line.2.now

-- the entry with this word, if there is one, and the first if there are more
abbrev pub entry_named : List Entry → List ℕ → Option Entry
entry_named entries word = find (λ e. bytes_eq e.word word) entries

-- an entry that was looked up, if it has this word
abbrev pub filled_by : List ℕ → Option Entry → Option Entry
filled_by word None = None
filled_by word (Some e) = if bytes_eq e.word word then Some e else None

-- an entry past the end of the table, where no row's entry is looked up
abbrev pub no_entry : Entry
no_entry = entry 0 [] []

-- a row's entry: the one at the place of its opcode
abbrev pub entry_for : Row → Entry
entry_for row = slice_index_or table (opcode_of row) no_entry
