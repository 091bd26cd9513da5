-- The result of a race, and what the command writes.
use Rattle.std.specs.Prelude.{◌≡◌, ◌++◌, ◌⊎◌, ◌<◌, ◌≤◌, ℕ, ℤ, false, List, [], ◌∷◌, length, flat_map, All, codes}
use Rattle.std.specs.Fmt.{decimal}
use Rattle.packed_phaser.specs.{declared.policy.Policy.TheVariants.Default, Flat.Flat, Flat.unarrived_of, Word.record_of}
use Rattle.shared_phaser.specs.declared.history.{Call.TheVariants.Arrive, Call.TheVariants.Await, Reply.Reply, Entry.Entry}
use Rattle.shared_phaser.specs.declared.history.{Reply.TheVariants.Counted, Setup.Setup}
use Rattle.shared_phaser.specs.declared.history.Answer.TheVariants.{Replied, Passed}
use Rattle.shared_phaser.specs.History.{IsLegal, at_end, calls_by}
use Rattle.shared_phaser.specs.Known.{Caller, Identity, entry, phaser_of}
use Rattle.workbench.specs.declared.fault.Fault.{Fault}
use Rattle.workbench.specs.declared.fault.Fault.TheVariants as fault

-- how a race's phaser begins
abbrev pub opening_of : ℕ → Setup
opening_of parties = record { parties = parties; phase = 0; policy = Default }

-- an arrival with this result wasn't counted
abbrev pub IsUncounted : Reply → Type 0
IsUncounted (Counted phase) = ⊥
IsUncounted reply = Unit {0}

-- one meeting of caller n: an arrival, and a wait for the end of its phase if it was counted
abbrev pub IsMeeting : ℕ → List Entry → Type 0
IsMeeting n calls =
    ((phase : ℤ) × ((view : ℤ) × (calls ≡ entry n (Arrive false) (Replied (Counted phase))
    ∷ entry n (Await phase) (Passed view) ∷ [])))
    ⊎ ((reply : Reply) × (IsUncounted reply × (calls ≡ entry n (Arrive false) (Replied reply) ∷ [])))

-- so many meetings of caller n, one after another, and no other call
abbrev pub AreMeetings : ℕ → ℕ → List Entry → Type 0
AreMeetings n rounds calls =
    (meetings : List (List Entry)) × ((length meetings ≡ rounds)
    × (All (IsMeeting n) meetings × (calls ≡ flat_map (λ (meeting : List Entry). meeting) meetings)))

-- the word of a phaser with so many parties after a legal history in which the callers from 1 to that number met so often, and
-- nobody else called
pub record IsFinal (parties rounds word : ℕ) : Type 0 where
  pub log : List Entry
  pub legal : IsLegal (opening_of parties) log
  pub now : record_of word ≡ at_end (opening_of parties) log
  pub met : (n : ℕ) → 0 < n → n ≤ parties → AreMeetings n rounds (calls_by n log)
  pub others : (n : ℕ) → (n ≡ 0) ⊎ (parties < n) → calls_by n log ≡ []

-- a caller of this phaser that hasn't called, and stands for nobody else
abbrev pub IsFresh : Identity → Caller → Type 0
IsFresh phaser caller = (phaser_of caller ≡ phaser) × ((caller.known.calls ≡ []) × (caller.known.joined ≡ []))

-- the caller that this one has become by so many meetings
abbrev pub HasMet : Caller → ℕ → Caller → Type 0
HasMet before rounds caller =
    (phaser_of caller ≡ phaser_of before) × ((caller.known.number ≡ before.known.number)
    × ((caller.known.joined ≡ []) × AreMeetings before.known.number rounds caller.known.calls))

abbrev pub number_of : Caller → ℕ
number_of caller = caller.known.number

-- why a race breaks off: it is out of memory, or a thread couldn't be started, or the output failed
abbrev pub IsRaceFault : Fault → Type 0
IsRaceFault f = (f ≡ fault.Memory) ⊎ ((f ≡ fault.Spawn) ⊎ (f ≡ fault.Write))

-- the line of a phaser
abbrev pub line_of : Flat → List ℕ
line_of f =
    codes "phase " ++ (decimal f.phase ++ (codes " parties " ++ (decimal f.parties ++ (codes " unarrived " ++ (decimal (unarrived_of f) ++ codes "\n")))))
