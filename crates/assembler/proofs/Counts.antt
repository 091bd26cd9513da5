-- How many things of a kind there are, and the numbers that names stand for.
use Rattle.std.proofs.Common.{◌≡◌, ℕ, ◌+◌, ◌<◌, ◌≤◌, Bool, true, false, cond, List, [], ◌∷◌, ◌++◌, Option, Some, subst, append_assoc, arith, IfSome, option_map, append-nil}
use Rattle.instruction_table.specs.declared.shape.OperandKind.{OperandKind}
use Rattle.instruction_table.specs.declared.shape.OperandKind.TheVariants as kind
use Rattle.line_reader.specs.{declared.statement.Statement.Statement, declared.statement.Line.Line, Symbols.Name}
use Rattle.assembler.proofs.Drafts.{count-append}
use Rattle.assembler.specs.Statements.{adds, count, gives_to, has_room, most, number_named, EachFollows}

-- one thing more of a kind that there is room for
room_kept : (k : OperandKind) (before : List (Line Name)) (s : Statement Name) → has_room before s ≡ true →
    count k before ≤ most k → count k before + adds k s ≤ most k
room_kept k before s room few = grind arith

few_behind : (k : OperandKind) (before lines : List (Line Name)) → count k before ≤ most k → EachFollows before lines →
    count k (before ++ lines) ≤ most k
few_behind k before [] few follow = rw (append-nil before) few
few_behind k before (line ∷ lines) few follow =
    let more : count k (before ++ line ∷ []) ≤ most k = omega (arith, count-append k before line, room_kept k before line.statement follow.0.room few) in
    subst (λ (all : List (Line Name)). count k all ≤ most k) (append_assoc before (line ∷ []) lines)
    (few_behind k (before ++ line ∷ []) lines more follow.1)

-- there are no more things of each kind than there may be
abbrev pub AreFew : List (Line Name) → Type 0
AreFew lines = (k : OperandKind) → count k lines ≤ most k

pub few_of_each : (lines : List (Line Name)) → EachFollows [] lines → AreFew lines
few_of_each lines follow k = few_behind k [] lines (omega arith) follow

-- ---- numbers of names

-- the number of a thing is at most how many there are: it is as many, where a label stands last
later : (n more : ℕ) (found : Option ℕ) → IfSome found (λ m. m ≤ n) → IfSome (option_map (λ m. more + m) found) (λ m. m ≤ more + n)
later n more found h = grind arith

pub number_within : (k : OperandKind) (name : Name) (lines : List (Line Name)) → IfSome (number_named k name lines) (λ n. n ≤ count k lines)
number_within k name [] = tt
number_within k name (line ∷ lines) = by_test (gives_to k name line.statement) (number_within k name lines)
  where
    by_test : (here : Bool) → IfSome (number_named k name lines) (λ n. n ≤ count k lines) →
        IfSome (cond here (Some 0) (option_map (λ n. adds k line.statement + n) (number_named k name lines))) (λ n. n ≤ adds k line.statement + count k lines)
    by_test true h = omega arith
    by_test false h = later (count k lines) (adds k line.statement) (number_named k name lines) h

-- a phaser's number is below their count
abbrev IsBelow : Name → List (Line Name) → Type 0
IsBelow name lines = IfSome (number_named kind.Phaser name lines) (λ n. n < count kind.Phaser lines)

next_below : (name : Name) (number : ℕ) (s : Statement Name) (lines : List (Line Name)) → IsBelow name lines →
    IsBelow name (record { number = number; statement = s } ∷ lines)
next_below name number s lines h = grind arith

pub phaser_below : (name : Name) (lines : List (Line Name)) → IfSome (number_named kind.Phaser name lines) (λ n. n < count kind.Phaser lines)
phaser_below name [] = tt
phaser_below name (line ∷ lines) = next_below name line.number line.statement lines (phaser_below name lines)
