-- What a handle of C owns: nothing, or a session in a block of its own.
use Prim.Native.Nat.{ℕ}
use base.Fml.{Fml, ftrue, fsep, fex}
use mathlib.Core.Path.{◌≡◌}
use denote.RattleType.{RattleType}
use denote.RawPtr.{Ptr}
use Rattle.std.specs.declared.option.Option.{Option, TheVariants.None, TheVariants.Some}
use Rattle.std.specs.{declared.alloc.Global.Global, contracts.impls.GlobalAllocator.TheImpl.ghosts, Box.Ownership.box_owns}

-- all allocators of this type are one heap
abbrev pub heap : Global
heap = record { memory = record { seal = tt } }

abbrev pub keeps : (R : RattleType) → Ptr → ℕ → Option R.Denot → Fml
keeps R p alive None = fex (alive ≡ 0) (λ _. ftrue)
keeps R p alive (Some x) = fsep (fex (alive ≡ 1) (λ _. ftrue)) (box_owns (ghosts.dealloc_token heap) R p x)
