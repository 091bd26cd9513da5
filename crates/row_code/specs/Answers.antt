-- How the result of a call is compared with the result of a definition. Any call may be out of memory instead.
use Rattle.std.specs.Prelude.{◌≡◌, Bool, true, false, Result, Ok, Err}

-- what is read or checked next, if nothing failed before
infixl 10 ◌>>=◌
abbrev pub ◌>>=◌ : {A B E : Type 0} → Result A E → (A → Result B E) → Result B E
(Ok x) >>= f = f x
(Err e) >>= f = Err e

-- the fault is the one that is read, except a fault about which nothing is said
abbrev pub FailsUnless : {Y E : Type 0} → Bool → E → Result Y E → Type 0
FailsUnless true fault read = Unit {0}
FailsUnless false fault read = read ≡ Err fault

-- a returned fault is the one that is read, unless it is out of memory
abbrev pub FailsAs : {Y E : Type 0} → (E → Bool) → E → Result Y E → Type 0
FailsAs is_memory fault read = FailsUnless (is_memory fault) fault read

-- the result, seen through view, is what is read, unless the call is out of memory
abbrev pub Answers : {X Y E : Type 0} → (E → Bool) → (X → Y) → Result X E → Result Y E → Type 0
Answers is_memory view (Ok x) read = read ≡ Ok (view x)
Answers is_memory view (Err fault) read = FailsAs is_memory fault read
