-- The canonical text of an image.
use Rattle.std.specs.Prelude.{ℕ, zero, suc, ◌+◌, ℤ, pos, negsuc, List, [], ◌∷◌, ◌++◌, codes, decimal, map, Option, Some, None}
use Rattle.std.specs.{Fmt.signed_decimal, List.flat_map}
use Rattle.instruction_table.specs.{declared.row.Row.Row, declared.shape.OperandKind.OperandKind, Table.entry_for}
use Rattle.instruction_table.specs.declared.shape.OperandKind.TheVariants as kind
use Rattle.row_code.specs.{declared.barriers.DeclaredBarrier.DeclaredBarrier, declared.image.Image.Image, RowFields.fields_of}
use Rattle.row_code.specs.declared.phasers.{DeclaredPhaser.DeclaredPhaser, DeclaredPolicy.DeclaredPolicy}
use Rattle.row_code.specs.declared.phasers.DeclaredPolicy.TheVariants.{Default, Never, Until, Routine}
use Rattle.row_code.specs.declared.threads.DeclaredThread.{DeclaredThread}

-- words, each with a space before it
abbrev pub spaced : List (List ℕ) → List ℕ
spaced [] = []
spaced (word ∷ words) = codes " " ++ (word ++ spaced words)

-- words with one space between each two
abbrev pub joined : List (List ℕ) → List ℕ
joined [] = []
joined (word ∷ words) = word ++ spaced words

-- a line of these words, with its end
abbrev pub line_text : List (List ℕ) → List ℕ
line_text words = joined words ++ codes "\n"

-- the number of a row or an object
abbrev pub number_word : ℕ → List ℕ
number_word n = codes "#" ++ decimal n

abbrev pub parent_words : Option ℕ → List (List ℕ)
parent_words None = []
parent_words (Some n) = codes "parent" ∷ number_word n ∷ []

-- phase 0 is left out
abbrev pub phase_words : ℤ → List (List ℕ)
phase_words (pos zero) = []
phase_words (pos (suc n)) = codes "phase" ∷ decimal (suc n) ∷ []
phase_words (negsuc n) = codes "phase" ∷ signed_decimal (negsuc n) ∷ []

abbrev pub policy_words : DeclaredPolicy → List (List ℕ)
policy_words Default = []
policy_words Never = codes "never" ∷ []
policy_words (Until phase) = codes "until" ∷ signed_decimal phase ∷ []
policy_words (Routine row) = codes "onadvance" ∷ number_word row ∷ []

abbrev pub action_words : Option ℕ → List (List ℕ)
action_words None = []
action_words (Some row) = codes "action" ∷ number_word row ∷ []

-- the words of the phaser, the barrier and the thread with this number
abbrev pub phaser_words : ℕ → DeclaredPhaser → List (List ℕ)
phaser_words n p =
    codes ".phaser" ∷ (codes "p" ++ decimal n) ∷ decimal p.parties
    ∷ (parent_words p.parent ++ (phase_words p.first_phase ++ policy_words p.policy))

abbrev pub barrier_words : ℕ → DeclaredBarrier → List (List ℕ)
barrier_words n b =
    codes ".barrier" ∷ (codes "b" ++ decimal n) ∷ decimal b.parties ∷ action_words b.action

abbrev pub thread_words : ℕ → DeclaredThread → List (List ℕ)
thread_words n t = codes ".thread" ∷ (codes "t" ++ decimal n) ∷ number_word t.first_row ∷ []

-- the operands of these kinds: registers by their numbers, one after the other, and imm
abbrev pub operand_words : List OperandKind → List ℕ → ℤ → List (List ℕ)
operand_words [] registers imm = []
operand_words (kind.Register ∷ kinds) [] imm = []
operand_words (kind.Register ∷ kinds) (register ∷ registers) imm =
    (codes "r" ++ decimal register) ∷ operand_words kinds registers imm
operand_words (kind.Number ∷ kinds) registers imm =
    signed_decimal imm ∷ operand_words kinds registers imm
operand_words (_ ∷ kinds) registers imm =
    (codes "#" ++ signed_decimal imm) ∷ operand_words kinds registers imm

abbrev pub row_words : Row → List (List ℕ)
row_words row =
    let entry = entry_for row in
    let f = fields_of row in
    entry.word ∷ operand_words entry.operands (f.a ∷ f.b ∷ f.c ∷ []) f.imm

-- what is made of each thing and its number, from n on
abbrev pub numbered : {A B : Type 0} → (ℕ → A → B) → ℕ → List A → List B
numbered f n [] = []
numbered f n (x ∷ xs) = f n x ∷ numbered f (n + 1) xs

-- the words of each line: one for each phaser, barrier, thread and row, in this order
abbrev pub lines_listed : Image → List (List (List ℕ))
lines_listed i =
    numbered phaser_words 0 i.phasers ++ (numbered barrier_words 0 i.barriers
    ++ (numbered thread_words 0 i.threads ++ map row_words i.rows))

abbrev pub canonical : Image → List ℕ
canonical i = flat_map line_text (lines_listed i)
