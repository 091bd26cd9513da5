-- Which lists of calls are histories of one phaser.
use Rattle.std.proofs.Common.{◌≡◌, ℕ, ℤ, pos, ◌+◌, ◌==◌, false, if◌then◌else◌, unwrap_or, List, [], ◌∷◌, filter, int_eq}
use Rattle.packed_phaser.specs.Flat.{Flat, Registration, Joins, JoinsLate, MustWait, Overfull, Arrival, Counts, Turns, ComesLate, IsUnregistered, fresh, view_of, register, arrive, advance, force}
use Rattle.packed_phaser.specs.{Policy.ends, Word.record_of, declared.policy.Policy.Policy}
use Rattle.shared_phaser.specs.declared.history.{Call.Call, Answer.Answer, Entry.Entry, Setup.Setup}
use Rattle.shared_phaser.specs.declared.history.Call.TheVariants.{Look, Register, Arrive, Force, Await}
use Rattle.shared_phaser.specs.declared.history.Reply.TheVariants.{Counted, Dead, TooMany, NotThere}
use Rattle.shared_phaser.specs.declared.history.Answer.TheVariants.{Saw, Replied, Passed}

-- the effect of a call: it returns a word of the phaser; or it returns this and changes nothing; or it changes the phaser to
-- this one and returns that; or it can't be made yet
pub data Effect : Type 0 where
  Shows : Effect
  Tells : Answer → Effect
  Makes : Flat → Answer → Effect
  Waits : Effect

-- of a registration of k parties
abbrev pub registering : ℕ → Registration → Effect
registering k (Joins f phase) = if k == 0 then Tells (Replied (Counted phase)) else Makes f (Replied (Counted phase))
registering k (JoinsLate view) = Tells (Replied (Dead view))
registering k MustWait = Waits
registering k Overfull = Tells (Replied TooMany)

-- of an arrival in this phase: the last one ends the phase in the same step
abbrev pub arriving : Policy → ℕ → Arrival → Effect
arriving p phase (Counts f) = Makes f (Replied (Counted (pos phase)))
arriving p phase (Turns f) = Makes (advance (unwrap_or (ends p f.phase f.parties) false) f) (Replied (Counted (pos phase)))
arriving p phase (ComesLate view) = Tells (Replied (Dead view))
arriving p phase IsUnregistered = Tells (Replied NotThere)

-- of a forced termination
abbrev pub forcing : Flat → Effect
forcing f = if f.ended then Tells (Replied (Dead (view_of f))) else Makes (force f) (Replied (Dead (view_of (force f))))

-- of a wait for the end of phase n
abbrev pub awaiting : ℤ → Flat → Effect
awaiting n f = if f.ended then Tells (Passed (view_of f)) else (if int_eq (pos f.phase) n then Waits else Tells (Passed (view_of f)))

-- of each call
abbrev pub effect : Policy → Call → Flat → Effect
effect p Look f = Shows
effect p (Register k) f = registering k (register k f)
effect p (Arrive leave) f = arriving p f.phase (arrive leave f)
effect p Force f = forcing f
effect p (Await n) f = awaiting n f

-- whether a result is the one that the effect has
abbrev pub Answers : Flat → Effect → Answer → Type 0
Answers f Shows a = (word : ℕ) × (a ≡ Saw word) × (record_of word ≡ f)
Answers f (Tells b) a = a ≡ b
Answers f (Makes g b) a = a ≡ b
Answers f Waits a = ⊥

-- the phaser after it
abbrev pub after : Flat → Effect → Flat
after f Shows = f
after f (Tells b) = f
after f (Makes g b) = g
after f Waits = f

-- 1 if it changes the phaser, and otherwise 0
abbrev pub change : Effect → ℕ
change Shows = 0
change (Tells b) = 0
change (Makes g b) = 1
change Waits = 0

-- each call, in order, had the result that it has on the phaser after the calls before it
abbrev pub IsLegalFrom : Policy → Flat → List Entry → Type 0
IsLegalFrom p f [] = Unit {0}
IsLegalFrom p f (e ∷ es) = Answers f (effect p e.call f) e.answer × IsLegalFrom p (after f (effect p e.call f)) es

-- the phaser after all calls
abbrev pub after_all : Policy → Flat → List Entry → Flat
after_all p f [] = f
after_all p f (e ∷ es) = after_all p (after f (effect p e.call f)) es

-- how many calls changed the phaser
abbrev pub changes : Policy → Flat → List Entry → ℕ
changes p f [] = 0
changes p f (e ∷ es) = change (effect p e.call f) + changes p (after f (effect p e.call f)) es

-- the phaser as it was made
abbrev pub opened : Setup → Flat
opened o = fresh o.phase o.parties

-- a history of a phaser that began so
abbrev pub IsLegal : Setup → List Entry → Type 0
IsLegal o log = IsLegalFrom o.policy (opened o) log

-- the phaser at its end
abbrev pub at_end : Setup → List Entry → Flat
at_end o log = after_all o.policy (opened o) log

-- the calls of one caller
abbrev pub calls_by : ℕ → List Entry → List Entry
calls_by n log = filter (λ e. e.by == n) log
