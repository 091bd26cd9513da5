-- What the code's own results mean. Only proofs use this, between the calls and the history: no promise depends on it.
use Rattle.std.specs.Prelude.{◌≡◌}
use Rattle.packed_phaser.specs.Word.{record_of}
use Rattle.shared_phaser.specs.declared.history.{Call.Call, Reply.TheVariants.TooMany, Answer.Answer, Known.Known}
use Rattle.shared_phaser.specs.declared.history.Call.TheVariants.{Look, Register, Arrive, Force, Await}
use Rattle.shared_phaser.specs.declared.history.Answer.TheVariants.{Replied, Passed}
use Rattle.shared_phaser.specs.declared.effect.Outcome.{Outcome, TheVariants.Told, TheVariants.Change, TheVariants.Wait}
use Rattle.shared_phaser.specs.declared.attempt.Attempt.{Attempt, TheVariants.Made, TheVariants.Lost, TheVariants.Waiting}
use Rattle.shared_phaser.specs.History.{Effect, Tells, Makes, Waits, at_end}
use Rattle.shared_phaser.specs.Known.{MakesCall, SeesMore}

-- the effect that an outcome stands for
abbrev pub effect_of : Outcome → Effect
effect_of (Told a) = Tells a
effect_of (Change word a) = Makes (record_of word) a
effect_of Wait = Waits

-- the calls that try until they have a result
abbrev pub IsTried : Call → Type 0
IsTried Look = ⊥
IsTried (Register k) = Unit {0}
IsTried (Arrive leave) = Unit {0}
IsTried Force = Unit {0}
IsTried (Await n) = Unit {0}

-- those of them that wait for nobody
abbrev pub IsPrompt : Call → Type 0
IsPrompt Look = ⊥
IsPrompt (Register k) = Unit {0}
IsPrompt (Arrive leave) = Unit {0}
IsPrompt Force = Unit {0}
IsPrompt (Await n) = ⊥

-- the kinds of result that a call can have
abbrev pub Suits : Call → Answer → Type 0
Suits (Await n) (Passed view) = Unit {0}
Suits (Arrive leave) (Replied TooMany) = ⊥
Suits (Arrive leave) (Replied r) = Unit {0}
Suits (Register k) (Replied r) = Unit {0}
Suits Force (Replied r) = Unit {0}
Suits c a = ⊥

-- and the kinds of outcome
abbrev pub SuitsOutcome : Call → Outcome → Type 0
SuitsOutcome c (Told a) = Suits c a
SuitsOutcome c (Change word a) = Suits c a
SuitsOutcome c Wait = IsPrompt c → ⊥

-- what one try does to the caller's knowledge
abbrev pub Tried : Known → Call → Attempt → Known → Type 0
Tried k c (Made a) l = MakesCall k c a l × Suits c a
Tried k c (Lost word) l = SeesMore k 1 l × (record_of word ≡ at_end l.opening l.seen)
Tried k c Waiting l = SeesMore k 0 l × (IsPrompt c → ⊥)
