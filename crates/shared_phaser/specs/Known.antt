-- What a caller knows, and what each call adds to this.
use Rattle.std.specs.Prelude.{◌≡◌, ◌≢◌, ◌⊎◌, ℕ, ℤ, ◌+◌, ◌<◌, ◌≤◌, false, List, [], ◌∷◌, ◌++◌, All, Any}
use mathlib.Core.List.{IsPrefix}
use Rattle.atomic_table.specs.Seated.{TableId}
use Rattle.packed_phaser.specs.Word.{record_of}
use Rattle.shared_phaser.specs.declared.history.{Call.Call, Call.TheVariants.Arrive, Call.TheVariants.Await, Answer.Answer}
use Rattle.shared_phaser.specs.declared.history.{Reply.TheVariants.Counted, Reply.TheVariants.Dead, Entry.Entry, Kept.Kept}
use Rattle.shared_phaser.specs.declared.history.{Answer.TheVariants.Replied, Answer.TheVariants.Passed, Setup.Setup}
use Rattle.shared_phaser.specs.declared.history.Known.{Known}
use Rattle.shared_phaser.specs.History.{IsLegal, at_end, changes, calls_by}

-- which phaser it is, and how it began
pub record Identity : Type 0 where
  pub table : TableId
  pub opening : Setup

-- a caller: the phaser's table, and what it knows
pub record Caller : Type 0 where
  pub table : TableId
  pub known : Known

-- the phaser that a caller calls
abbrev pub phaser_of : Caller → Identity
phaser_of c = record { table = c.table; opening = c.known.opening }

-- the calls in the history that belong to k, or to callers joined into it, are exactly those that they made
pub record Owns (log : List Entry) (k : Known) : Type 0 where
  pub own : calls_by k.number log ≡ k.calls
  pub kept : All (λ (x : Kept). calls_by x.number log ≡ x.calls) k.joined
  pub apart : All (λ (x : Kept). x.number ≢ k.number) k.joined

-- a caller that has seen nothing
abbrev pub newcomer : Setup → Known
newcomer o = record { number = 0; opening = o; splits = 0; seen = []; calls = []; joined = [] }

abbrev pub entry : ℕ → Call → Answer → Entry
entry n c a = record { by = n; call = c; answer = a }

-- it has seen this history, and its call at the end
abbrev pub making : Known → List Entry → Call → Answer → Known
making k log c a = record k { seen = log ++ entry k.number c a ∷ []; calls = k.calls ++ entry k.number c a ∷ [] }

-- it has seen this history
abbrev pub seeing : Known → List Entry → Known
seeing k log = record k { seen = log }

-- The call is one more of the caller's. It has now seen a legal history that begins with all that it had seen, that has
-- just its own calls of it, and that ends with this one
pub record MakesCall (k : Known) (c : Call) (a : Answer) (l : Known) : Type 0 where
  pub between : List Entry
  pub is : l ≡ making k (k.seen ++ between) c a
  pub legal : IsLegal l.opening l.seen
  pub owns : Owns l.seen l

-- an arrival after termination, or one that was counted and a wait for the end of its phase
abbrev pub ArrivesAndAwaits : Known → ℤ → Known → Type 0
ArrivesAndAwaits k view l =
    MakesCall k (Arrive false) (Replied (Dead view)) l
    ⊎ ((phase : ℤ) × (m : Known) × MakesCall k (Arrive false) (Replied (Counted phase)) m × MakesCall m (Await phase) (Passed view) l)

-- No call was made. The history that it has now seen goes on from what it had seen, and that many calls there changed
-- the phaser, or more
pub record SeesMore (k : Known) (least : ℕ) (l : Known) : Type 0 where
  pub between : List Entry
  pub is : l ≡ seeing k (k.seen ++ between)
  pub legal : IsLegal l.opening l.seen
  pub owns : Owns l.seen l
  pub grown : least ≤ changes k.opening.policy (at_end k.opening k.seen) between

-- the first caller after a split, and the caller that was split from it
abbrev pub giving : Known → Known
giving k = record k { splits = k.splits + 1 }

abbrev pub given : Known → Known
given k = record { number = k.splits + 1; opening = k.opening; splits = 0; seen = k.seen; calls = []; joined = [] }

-- the first caller also stands for another, and for those that the other stood for
abbrev pub receiving : Known → Known → Known
receiving k other = record k { joined = k.joined ++ (record { number = other.number; calls = other.calls } ∷ other.joined) }

-- What the first caller has seen afterwards begins with what either had seen
pub record JoinsCaller (k other l : Known) : Type 0 where
  pub is : l ≡ seeing (receiving k other) l.seen
  pub legal : IsLegal l.opening l.seen
  pub begins : IsPrefix k.seen l.seen
  pub informed : IsPrefix other.seen l.seen
  pub owns : Owns l.seen l

-- every caller that was split from it was joined into it
abbrev pub IsWhole : Known → Type 0
IsWhole k = (n : ℕ) → 0 < n → n ≤ k.splits → Any (λ (x : Kept). x.number ≡ n) k.joined

-- a caller that k doesn't stand for
abbrev pub IsApart : Known → ℕ → Type 0
IsApart k n = (n ≢ k.number) × All (λ (x : Kept). x.number ≢ n) k.joined

-- The word is that of the phaser after a legal history that continues what k has seen, with no further call of those that k
-- stands for; if k is whole, with no further call of anybody
pub record EndsAs (k : Known) (word : ℕ) : Type 0 where
  pub log : List Entry
  pub legal : IsLegal k.opening log
  pub begins : IsPrefix k.seen log
  pub owns : Owns log k
  pub now : record_of word ≡ at_end k.opening log
  pub whole : IsWhole k → (n : ℕ) → IsApart k n → calls_by n log ≡ []
