-- What comes of an input that can't be read.
use Rattle.std.proofs.Common.{◌≡◌, ◌⊎◌, ℕ, Bool, IsTrue, false, List, Option, arith}
use Rattle.workbench.specs.{declared.fault.Fault.Fault, Input.GivesTooMuch, Outcome.IsUnreadFor}
use Rattle.workbench.specs.declared.fault.Fault.TheVariants as fault

-- its bytes aren't known
pub unread : (f : Fault) (before after : Option (List ℕ)) (failed : Bool) → ((f ≡ fault.Memory) × (failed ≡ false)) ⊎ (f ≡ fault.Read)
    → (f ≡ fault.Read → IsTrue failed ⊎ GivesTooMuch before after) → IsUnreadFor f before after failed
unread f before after failed given read = grind arith
