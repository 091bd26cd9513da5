-- What each statement declares for the lines after it: names, and objects of each kind.
use Rattle.std.specs.Prelude.{◌≡◌, ℕ, ◌+◌, nat_lt, ◌||◌, not, if◌then◌else◌, Bool, true, false, List, [], ◌∷◌, ◌++◌, bytes_eq, Option, Some, None, option_map}
use Rattle.std.specs.List.{list_any}
use Rattle.instruction_table.specs.declared.shape.OperandKind.{OperandKind}
use Rattle.instruction_table.specs.declared.shape.OperandKind.TheVariants as kind
use Rattle.line_reader.specs.{declared.statement.Statement.Statement, declared.statement.Line.Line, Symbols.Name}
use Rattle.line_reader.specs.declared.statement.Statement.TheVariants as statement

-- the name that a statement gives
abbrev pub name_in : Statement Name → Option Name
name_in (statement.Phaser p) = Some p.name
name_in (statement.Barrier b) = Some b.name
name_in (statement.Thread t) = Some t.name
name_in (statement.Cell name) = Some name
name_in (statement.Label name) = Some name
name_in (statement.Row label row) = label

-- what that name names: a row, or an object of a kind
abbrev pub kind_named : Statement Name → OperandKind
kind_named (statement.Phaser p) = kind.Phaser
kind_named (statement.Barrier b) = kind.Barrier
kind_named (statement.Thread t) = kind.Thread
kind_named (statement.Cell name) = kind.Cell
kind_named (statement.Label name) = kind.Target
kind_named (statement.Row label row) = kind.Target

-- whether two kinds are one
abbrev pub is_kind : OperandKind → OperandKind → Bool
is_kind kind.Register kind.Register = true
is_kind kind.Number kind.Number = true
is_kind kind.Target kind.Target = true
is_kind kind.Phaser kind.Phaser = true
is_kind kind.Barrier kind.Barrier = true
is_kind kind.Thread kind.Thread = true
is_kind kind.Cell kind.Cell = true
is_kind _ _ = false

-- whether this is the name
abbrev pub is_named : Name → Option Name → Bool
is_named name None = false
is_named name (Some given) = bytes_eq given name

-- whether a statement gives this name to something
abbrev pub gives : Name → Statement Name → Bool
gives name statement = is_named name (name_in statement)

-- whether a statement gives this name to something of this kind
abbrev pub gives_to : OperandKind → Name → Statement Name → Bool
gives_to k name statement = if is_kind k (kind_named statement) then gives name statement else false

-- how many things of a kind a statement adds: a label adds no row
abbrev pub adds : OperandKind → Statement Name → ℕ
adds k (statement.Label name) = 0
adds k statement = if is_kind k (kind_named statement) then 1 else 0

-- how many things of a kind statements add
abbrev pub count : OperandKind → List (Line Name) → ℕ
count k [] = 0
count k (line ∷ lines) = adds k line.statement + count k lines

-- whether a name is given
abbrev pub is_given : Name → List (Line Name) → Bool
is_given name lines = list_any (λ line. gives name line.statement) lines

-- the number of what a name refers to, if it is of this kind: how many of its kind come before it
abbrev pub number_named : OperandKind → Name → List (Line Name) → Option ℕ
number_named k name [] = None
number_named k name (line ∷ lines) =
    if gives_to k name line.statement then Some 0
    else option_map (λ n. adds k line.statement + n) (number_named k name lines)

-- a label or a row, after which no directive may come
abbrev pub is_code : Statement Name → Bool
is_code (statement.Label name) = true
is_code (statement.Row label row) = true
is_code _ = false

abbrev pub has_code : List (Line Name) → Bool
has_code lines = list_any (λ line. is_code line.statement) lines

-- how many things of a kind a program may have; nothing is of the kinds register and number
abbrev pub most : OperandKind → ℕ
most kind.Target = 65535
most kind.Cell = 32
most _ = 64

-- whether there is room for what a statement adds; a label adds nothing
abbrev pub has_room : List (Line Name) → Statement Name → Bool
has_room before (statement.Label name) = true
has_room before statement = let k = kind_named statement in nat_lt (count k before) (most k)

-- whether the name that a statement gives is new, if it gives one
abbrev pub is_new : List (Line Name) → Option Name → Bool
is_new before None = true
is_new before (Some name) = not (is_given name before)

-- a statement may follow these: its name is new, it is no directive after code, and there is room
pub record Follows (before : List (Line Name)) (s : Statement Name) : Type 0 where
  pub name : is_new before (name_in s) ≡ true
  pub place : (is_code s || not (has_code before)) ≡ true
  pub room : has_room before s ≡ true

-- each statement may follow those before it
abbrev pub EachFollows : List (Line Name) → List (Line Name) → Type 0
EachFollows before [] = Unit {0}
EachFollows before (line ∷ lines) =
    Follows before line.statement × EachFollows (before ++ (line ∷ [])) lines
