-- The phasers of an image, and the bytes of each.
use Rattle.std.specs.Prelude.{ℕ, ◌<◌, ◌≤◌, ℤ, pos, ◌≤ℤ◌, ◌<ℤ◌, List, ◌∷◌, ◌++◌, length, All, Option, None, Some, IfSome}
use Rattle.row_code.specs.declared.phasers.{DeclaredPolicy.DeclaredPolicy, DeclaredPhaser.DeclaredPhaser}
use Rattle.row_code.specs.declared.phasers.DeclaredPolicy.TheVariants.{Default, Never, Until, Routine}
use Rattle.row_code.specs.Number.{u16_bytes, i32_bytes}

-- an `int` that is not negative
abbrev pub IsCount : ℤ → Type 0
IsCount z = (pos 0 ≤ℤ z) × (z <ℤ pos 2147483648)

-- the phase of `until` is not negative, and a routine's row has two bytes
abbrev pub IsPolicy : DeclaredPolicy → Type 0
IsPolicy Default = Unit {0}
IsPolicy Never = Unit {0}
IsPolicy (Until phase) = IsCount phase
IsPolicy (Routine row) = row < 65536

-- the ranges of a phaser's fields
pub record IsPhaser (p : DeclaredPhaser) : Type 0 where
  pub parent : IfSome p.parent (λ n. n < 64)
  pub policy : IsPolicy p.policy
  pub parties : p.parties < 65536
  pub first_phase : IsCount p.first_phase

-- at most 64 phasers, each in its ranges
abbrev pub ArePhasers : List DeclaredPhaser → Type 0
ArePhasers ps = (length ps ≤ 64) × All IsPhaser ps

-- a phaser without a parent has 255 in place of the parent's number
abbrev pub parent_byte : Option ℕ → ℕ
parent_byte None = 255
parent_byte (Some n) = n

-- the number of a policy's kind
abbrev pub kind_byte : DeclaredPolicy → ℕ
kind_byte Default = 0
kind_byte Never = 1
kind_byte (Until _) = 2
kind_byte (Routine _) = 3

-- a policy's argument: the phase of `until`, or the routine's row; otherwise 0
abbrev pub argument : DeclaredPolicy → ℤ
argument Default = pos 0
argument Never = pos 0
argument (Until phase) = phase
argument (Routine row) = pos row

-- the 12 bytes of a phaser
abbrev pub phaser_bytes : DeclaredPhaser → List ℕ
phaser_bytes p =
    parent_byte p.parent ∷ kind_byte p.policy ∷
    (u16_bytes p.parties ++ (i32_bytes p.first_phase ++ i32_bytes (argument p.policy)))
