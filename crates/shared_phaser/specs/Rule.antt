-- The rule that the word and the callers' views follow, and what each step on the word says. No promise depends on it: the
-- calls promise what `Known` and `History` say.
use Rattle.std.specs.Prelude.{◌≡◌, ℕ, ◌+◌, ◌≤◌, ◌==◌, Bool, true, false, List, [], ◌∷◌, length, All}
use mathlib.Core.List.{IsPrefix}
use mathlib.Core.Option.{some}
use lib.ListN.{get_elem?}
use Rattle.atomic_table.specs.Table.{State, Me, Step}
use Rattle.packed_phaser.specs.{Word.IsWord, Word.record_of, declared.policy.Policy.TheVariants.Never}
use Rattle.shared_phaser.specs.declared.history.{Call.Call, Answer.TheVariants.Saw, Entry.Entry, Kept.Kept, Setup.Setup}
use Rattle.shared_phaser.specs.declared.history.{Known.Known, View.View}
use Rattle.shared_phaser.specs.History.{Effect, Shows, Tells, Makes, Waits, effect, IsLegal, at_end, calls_by}
use Rattle.shared_phaser.specs.Known.{Owns, newcomer, making, seeing, giving, given, receiving}

-- a caller's view, if no join has told it anything that it hasn't seen
abbrev pub knowing : View → Known → View
knowing v k = record { known = k; told = []; live = v.live }

abbrev pub first_view : Setup → View
first_view o = record { known = newcomer o; told = []; live = true }

-- the history continues what the caller has seen, and what a join has told it
pub record Knows (log : List Entry) (v : View) : Type 0 where
  pub begins : IsPrefix v.known.seen log
  pub informed : IsPrefix v.told log
  pub owns : Owns log v.known

-- a caller that can't call any more
abbrev pub IsSpent : List View → ℕ → Type 0
IsSpent views n = (u : View) × (get_elem? views n ≡ some u) × (u.live ≡ false)

-- what holds of the caller at place i
pub record Stands (o : Setup) (views : List View) (log : List Entry) (i : ℕ) (v : View) : Type 0 where
  pub number : v.known.number ≡ i
  pub opening : v.known.opening ≡ o
  pub knows : Knows log v
  pub joined : All (λ (x : Kept). IsSpent views x.number) v.known.joined

-- There is one legal history. The word is that of the phaser after it, which isn't turned
pub record Keeps (o : Setup) (word : ℕ) (views : List View) (log : List Entry) : Type 0 where
  pub legal : IsLegal o log
  pub now : record_of word ≡ at_end o log
  pub valid : IsWord word
  pub unturned : (record_of word).turned ≡ false
  pub stands : (i : ℕ) (v : View) → get_elem? views i ≡ some v → v.live ≡ true → Stands o views log i v
  pub one : (v : View) × (get_elem? views 0 ≡ some v) × (v.known.splits + 1 ≡ length views)
  pub later : (n : ℕ) → length views ≤ n → calls_by n log ≡ []

pub record IsKept (o : Setup) (s : State (Unit {0}) View) : Type 0 where
  pub word : ℕ
  pub log : List Entry
  pub words : s.words ≡ word ∷ []
  pub keeps : Keeps o word s.views log

-- the history so far goes on from what the caller knows, and the word found is that of the phaser after it
pub record Finds (v : View) (n : ℕ) (log : List Entry) : Type 0 where
  pub knows : Knows log v
  pub legal : IsLegal v.known.opening log
  pub now : record_of n ≡ at_end v.known.opening log
  pub valid : IsWord n
  pub unturned : (record_of n).turned ≡ false

-- what a caller knows after a load that is its call, if a load can be
abbrev pub loaded : Effect → Known → List Entry → Call → ℕ → Known
loaded Shows k log c n = making k log c (Saw n)
loaded (Tells a) k log c n = making k log c a
loaded (Makes f a) k log c n = seeing k log
loaded Waits k log c n = seeing k log

-- and after an exchange that is its call
abbrev pub won : Effect → Known → List Entry → Call → Known
won Shows k log c = seeing k log
won (Tells a) k log c = seeing k log
won (Makes f a) k log c = making k log c a
won Waits k log c = seeing k log

abbrev pub exchanged : Bool → Effect → Known → List Entry → Call → Known
exchanged true e k log c = won e k log c
exchanged false e k log c = seeing k log

-- the policy that a caller's phaser has makes this of the word
abbrev pub effect_at : View → Call → ℕ → Effect
effect_at v c n = effect v.known.opening.policy c (record_of n)

-- a load makes the call, or only sees the history
pub record Loads (c : Call) (s : Step (Unit {0})) (v : Me (Unit {0}) View) (n : ℕ) (w : Me (Unit {0}) View) : Type 0 where
  pub log : List Entry
  pub finds : Finds v.0 n log
  pub held : w.1 ≡ v.1
  pub view : w.0 ≡ knowing v.0 (loaded (effect_at v.0 c n) v.0.known log c n)

-- an exchange that finds the word that it expects makes the call, and another one only sees the history
pub record Exchanges (c : Call) (s : Step (Unit {0})) (v : Me (Unit {0}) View) (n : ℕ) (w : Me (Unit {0}) View) : Type 0 where
  pub log : List Entry
  pub finds : Finds v.0 n log
  pub held : w.1 ≡ v.1
  pub view : w.0 ≡ knowing v.0 (exchanged (n == s.first) (effect_at v.0 c n) v.0.known log c)

-- a load sees the history
pub record Watches (s : Step (Unit {0})) (v : Me (Unit {0}) View) (n : ℕ) (w : Me (Unit {0}) View) : Type 0 where
  pub log : List Entry
  pub finds : Finds v.0 n log
  pub held : w.1 ≡ v.1
  pub view : w.0 ≡ knowing v.0 (seeing v.0.known log)

-- the views of a split
abbrev pub giving_view : View → View
giving_view v = record v { known = giving v.known }

abbrev pub given_view : View → View
given_view v = record { known = given v.known; told = []; live = true }

-- the same for a join: one caller is told what the other has seen, and the other is spent
abbrev pub receiving_view : View → View → View
receiving_view v w = record { known = receiving v.known w.known; told = w.known.seen; live = v.live }

abbrev pub spent_view : View
spent_view = record { known = newcomer (record { parties = 0; phase = 0; policy = Never }); told = []; live = false }
